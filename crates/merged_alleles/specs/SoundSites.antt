-- What a caller shows of the sites found over a position and of REF of the record there.
use Rattle.std.specs.Prelude.{◌≤◌, ℕ, eqb, length, List, ◌≡◌}
use Rattle.definitions.specs.Alleles.{is_block}
use Rattle.definitions.specs.Bytes.{comma, fields_of}
use Rattle.definitions.specs.Limits.{max_site_letters}
use Rattle.laws.proofs.Every.{Every}
use Rattle.laws.proofs.Fields.{Free}
use Rattle.tables.specs.Tables.{column, part_at, site_at}

-- at most as many bytes as an allele of a site has letters, and no comma
pub record ShortField (f : List ℕ) : Type 0 where
  pub short : length f ≤ max_site_letters
  pub free : Free comma f

-- each field of a list of ALTs is at most so long
abbrev pub ShortFields : List ℕ → Type 0
ShortFields list = Every (λ f. length f ≤ max_site_letters) (fields_of comma list)

-- those of the site in a row are, and the row says whether it is a block
pub record SoundRow (s rows : List ℕ) (site : ℕ) : Type 0 where
  pub short : ShortFields (part_at 11 12 s rows site)
  pub block : eqb (column 4 rows site) 1 ≡ is_block (site_at s rows site).alleles

pub record SoundSites (s rows found ref : List ℕ) : Type 0 where
  pub sites : Every (SoundRow s rows) found
  pub reference : ShortField ref

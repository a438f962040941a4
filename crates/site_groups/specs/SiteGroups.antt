-- What reading the lines of a site group finds.
use Rattle.std.specs.Prelude as std
use Rattle.std.specs.Prelude.{◌<◌, ◌≤◌, ℕ, drop, length, take, Bool, List, [], ◌≡◌}
use Rattle.std.proofs.lemmas.List.Edits.{sets}
use Rattle.std.proofs.Math.Option.{Option, get_or, some}
use Rattle.answers.specs.Answered.{row_of}
use Rattle.answers.specs.Options.{option_of}
use Rattle.answers.specs.declared.Refusal.{Refusal}
use Rattle.definitions.specs.Alleles.{is_block}
use Rattle.definitions.specs.Answers.{scratch_after}
use Rattle.definitions.specs.Bytes.{comma, fields_of}
use Rattle.definitions.specs.Checked.{Checked, ◌>>=◌, accepted, refused}
use Rattle.definitions.specs.Cohort.{Site, SiteText, checked_site, site_lines, site_text_of}
use Rattle.definitions.specs.Lines.{Line, line_at, lines_of}
use Rattle.definitions.specs.Numbers.{name, number, number_list, or_missing}
use Rattle.kv_text.specs.Fields.{between}
use Rattle.kv_text.specs.Lines.{Behind, LineFound, line_numbers, read_to, unread}
use Rattle.kv_text.specs.declared.Part.{Part}
use Rattle.laws.proofs.AllelesAsRead.{ref_alts_as_read}
use Rattle.laws.proofs.Decimals.{InRange}
use Rattle.laws.proofs.Every.{IfThere}
use Rattle.site_groups.specs.declared.NumbersPart.{NumbersPart}
use Rattle.site_groups.specs.declared.SiteAlleles.{SiteAlleles}
use Rattle.site_groups.specs.declared.SiteGroup.{SiteGroup}
use Rattle.site_groups.specs.declared.SiteParts.{SiteParts}
use Rattle.site_groups.specs.declared.SitePlace.{SitePlace}
use Rattle.site_groups.specs.declared.SiteValues.{SiteValues}

-- a list of numbers in the text, and that it has as many as its count says
abbrev pub numbers_of : List ℕ → NumbersPart → Option (List ℕ)
numbers_of s n = number_list (between s n.at n.end)

abbrev pub Counted : List ℕ → NumbersPart → Type 0
Counted s n = n.count ≡ length (get_or (numbers_of s n) [])

-- a list's numbers stand at the front of a slice, as many as fit
abbrev pub Stored : List ℕ → NumbersPart → List ℕ → List ℕ → Type 0
Stored s n before after = after ≡ sets before 0 (get_or (numbers_of s n) [])

-- the answer about a list's line
abbrev pub part_found : List ℕ → std.Option NumbersPart → LineFound (Option (List ℕ))
part_found s (std.Some n) = read_to (numbers_of s n) n.end
part_found s std.None = unread

-- a list has so many numbers, none if it is missing
abbrev pub PartCounted : List ℕ → std.Option NumbersPart → Type 0
PartCounted s (std.Some n) = Counted s n
PartCounted s std.None = Unit {0}

-- what a slice holds after the answer: the list's numbers at its front, as many as fit; of a list that does not read, those before the fault
abbrev pub PartStored : List ℕ → ℕ → List ℕ → List ℕ → List ℕ → std.Option NumbersPart → Type 0
PartStored s at key before after (std.Some n) = Stored s n before after
PartStored s at key before after std.None = after ≡ sets before 0 (line_numbers s at key)

-- the bytes of a part of the text
abbrev pub bytes_of : List ℕ → Part → List ℕ
bytes_of s p = between s p.at p.end

-- the lines of the site group at an offset
abbrev pub site_group : List ℕ → ℕ → List Line
site_group s at = take site_lines (lines_of (drop at s))

-- the first four lines of the group
pub record PlaceLines (s : List ℕ) (at : ℕ) (p : SitePlace) : Type 0 where
  pub sample : line_at (site_group s at) 0 "site" number ≡ accepted p.sample.0
  pub contig : line_at (site_group s at) 1 "contig" name ≡ accepted (bytes_of s p.contig)
  pub start : line_at (site_group s at) 2 "start" number ≡ accepted p.start.0
  pub end : line_at (site_group s at) 3 "end" number ≡ accepted p.end.0
  pub ordered : p.contig.at ≤ p.contig.end
  pub behind : Behind s at 4 p.next
  pub within : p.next ≤ length s

unfoldable pub PlaceRead : List ℕ → ℕ → std.Option SitePlace → Type 0
PlaceRead s at (std.Some p) = PlaceLines s at p
PlaceRead s at std.None = site_text_of (site_group s at) ≡ refused 1

-- the fifth and sixth line of the group that begins at `first`
pub record AlleleLines (s : List ℕ) (first : ℕ) (a : SiteAlleles) : Type 0 where
  pub ref : line_at (site_group s first) 4 "ref" some ≡ accepted (bytes_of s a.refs)
  pub alt : line_at (site_group s first) 5 "alt" some ≡ accepted (bytes_of s a.alts)
  pub ref_ordered : a.refs.at ≤ a.refs.end
  pub alt_ordered : a.alts.at ≤ a.alts.end
  pub behind : Behind s first 6 a.next
  pub within : a.next ≤ length s

unfoldable pub AlleleLinesRead : List ℕ → ℕ → std.Option SiteAlleles → Type 0
AlleleLinesRead s at (std.Some a) = (first : ℕ) → Behind s first 4 at → AlleleLines s first a
AlleleLinesRead s at std.None = (first : ℕ) → Behind s first 4 at → site_text_of (site_group s first) ≡ refused 1

-- some numbers stand there
pub record SomeStored (before after : List ℕ) : Type 0 where
  pub numbers : List ℕ
  pub stored : after ≡ sets before 0 numbers

-- numbers that may be missing are at most the greatest that a text has
pub record ValuesSmall (v : SiteValues) : Type 0 where
  pub gq : IfThere InRange (option_of v.gq)
  pub dp : IfThere InRange (option_of v.dp)
  pub mindp : IfThere InRange (option_of v.mindp)

-- the last five lines
pub record ValueLines (s : List ℕ) (first : ℕ) (v : SiteValues) : Type 0 where
  pub gq : line_at (site_group s first) 6 "gq" (or_missing number) ≡ accepted (option_of v.gq)
  pub dp : line_at (site_group s first) 7 "dp" (or_missing number) ≡ accepted (option_of v.dp)
  pub mindp : line_at (site_group s first) 8 "mindp" (or_missing number) ≡ accepted (option_of v.mindp)
  pub ad : line_at (site_group s first) 9 "ad" (or_missing number_list) ≡ accepted (numbers_of s v.ad)
  pub pl : line_at (site_group s first) 10 "pl" (or_missing number_list) ≡ accepted (numbers_of s v.pl)
  pub small : ValuesSmall v
  pub ad_count : Counted s v.ad
  pub pl_count : Counted s v.pl
  pub behind : Behind s first 11 v.next
  pub forward : first < v.next
  pub within : v.next ≤ length s

unfoldable pub ValuesRead : List ℕ → ℕ → std.Option SiteValues → Type 0
ValuesRead s at (std.Some v) = (first : ℕ) → Behind s first 6 at → ValueLines s first v
ValuesRead s at std.None = (first : ℕ) → Behind s first 6 at → site_text_of (site_group s first) ≡ refused 1

-- what the slices for AD and PL hold after the answer; if a line is wrong, the numbers that were read before it
abbrev pub ValuesStored : List ℕ → List ℕ → List ℕ → List ℕ → List ℕ → std.Option SiteValues → Type 0
ValuesStored s ad₀ ad pl₀ pl (std.Some v) = Stored s v.ad ad₀ ad × Stored s v.pl pl₀ pl
ValuesStored s ad₀ ad pl₀ pl std.None = SomeStored ad₀ ad × SomeStored pl₀ pl

-- what the eleven lines say
abbrev pub site_text_at : List ℕ → SitePlace → SiteAlleles → SiteValues → SiteText
site_text_at s p a v = record {
  sample = p.sample.0;
  contig = bytes_of s p.contig;
  start = p.start.0;
  end = p.end.0;
  ref = bytes_of s a.refs;
  alt = bytes_of s a.alts;
  gq = option_of v.gq;
  dp = option_of v.dp;
  mindp = option_of v.mindp;
  ad = numbers_of s v.ad;
  pl = numbers_of s v.pl;
}

pub record TextLines (s : List ℕ) (at : ℕ) (p : SitePlace) (a : SiteAlleles) (v : SiteValues) : Type 0 where
  pub text : site_text_of (site_group s at) ≡ accepted (site_text_at s p a v)
  pub place : PlaceLines s at p
  pub alleles : AlleleLines s at a
  pub values : ValueLines s at v

unfoldable pub TextRead : List ℕ → ℕ → std.Option SiteParts → Type 0
TextRead s at (std.Some t) = TextLines s at t.place t.alleles t.values
TextRead s at std.None = site_text_of (site_group s at) ≡ refused 1

-- the same after the eleven lines
abbrev pub TextStored : List ℕ → List ℕ → List ℕ → List ℕ → List ℕ → std.Option SiteParts → Type 0
TextStored s ad₀ ad pl₀ pl (std.Some t) = Stored s t.values.ad ad₀ ad × Stored s t.values.pl pl₀ pl
TextStored s ad₀ ad pl₀ pl std.None = SomeStored ad₀ ad × SomeStored pl₀ pl

-- the site that they stand for
abbrev pub site_from : List ℕ → SitePlace → SiteAlleles → SiteValues → Site
site_from s p a v = record {
  sample = p.sample.0;
  contig = bytes_of s p.contig;
  start = p.start.0;
  end = p.end.0;
  alleles = ref_alts_as_read (bytes_of s a.refs) (fields_of comma (bytes_of s a.alts));
  gq = option_of v.gq;
  dp = option_of v.dp;
  mindp = option_of v.mindp;
  ad = numbers_of s v.ad;
  pl = numbers_of s v.pl;
}

-- rows 2 to 8 let it through, and it is a block or not
pub record SiteRight (s : List ℕ) (p : SitePlace) (a : SiteAlleles) (v : SiteValues) (samples before : ℕ) (block : Bool) : Type 0 where
  pub value : checked_site samples before (site_text_at s p a v) ≡ accepted (site_from s p a v)
  pub is_block_lem : block ≡ is_block (site_from s p a v).alleles

-- what is checked had its numbers counted right
unfoldable pub SiteChecked : List ℕ → SitePlace → SiteAlleles → SiteValues → ℕ → ℕ → std.Result Bool Refusal → Type 0
SiteChecked s p a v samples before (std.Ok block) =
    Counted s v.ad → Counted s v.pl → SiteRight s p a v samples before block
SiteChecked s p a v samples before (std.Err r) =
    Counted s v.ad → Counted s v.pl → checked_site samples before (site_text_at s p a v) ≡ refused (row_of r)

-- the eleven lines at an offset as a site, with so many samples and after so many sites
unfoldable pub site_group_of : List ℕ → ℕ → ℕ → ℕ → Checked Site
site_group_of s at samples before = site_text_of (site_group s at) >>= checked_site samples before

pub record SiteTo (s : List ℕ) (at samples before : ℕ) (p : SitePlace) (a : SiteAlleles) (v : SiteValues) (block : Bool) : Type 0 where
  pub value : site_group_of s at samples before ≡ accepted (site_from s p a v)
  pub is_block_lem : block ≡ is_block (site_from s p a v).alleles
  pub small : ValuesSmall v
  pub ad_count : Counted s v.ad
  pub pl_count : Counted s v.pl
  pub behind : Behind s at site_lines v.next
  pub forward : at < v.next
  pub within : v.next ≤ length s

unfoldable pub SiteRead : List ℕ → ℕ → ℕ → ℕ → std.Result SiteGroup Refusal → Type 0
SiteRead s at samples before (std.Ok g) = SiteTo s at samples before g.place g.alleles g.values g.block
SiteRead s at samples before (std.Err r) = site_group_of s at samples before ≡ refused (row_of r)

-- what the slices for AD and PL hold after the answer: the site's numbers at their fronts, as many as fit; zeros after a refusal
abbrev pub NumbersStored : List ℕ → List ℕ → List ℕ → List ℕ → List ℕ → std.Result SiteGroup Refusal → Type 0
NumbersStored s ad₀ ad pl₀ pl (std.Ok g) = Stored s g.values.ad ad₀ ad × Stored s g.values.pl pl₀ pl
NumbersStored s ad₀ ad pl₀ pl (std.Err r) = (ad ≡ scratch_after ad₀) × (pl ≡ scratch_after pl₀)

-- the same with the slices left open after a refusal
abbrev pub NumbersFound : List ℕ → List ℕ → List ℕ → List ℕ → List ℕ → std.Result SiteGroup Refusal → Type 0
NumbersFound s ad₀ ad pl₀ pl (std.Ok g) = Stored s g.values.ad ad₀ ad × Stored s g.values.pl pl₀ pl
NumbersFound s ad₀ ad pl₀ pl (std.Err r) = SomeStored ad₀ ad × SomeStored pl₀ pl

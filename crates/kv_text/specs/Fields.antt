-- What the answers about bytes and fields stand for in the definitions.
use Prim.Native.Nat.{◌+◌, ◌-◌, ◌<◌, ◌≤◌, ℕ}
use Rattle.std.specs.Prelude.{drop, get_or, length, take, List, [], ◌∷◌, map, ◌≡◌}
use Rattle.std.proofs.Math.Option.{Option, none, some}
use Rattle.definitions.specs.Alleles.{Allele, capital, letters, non_ref, span_del}
use Rattle.definitions.specs.Bytes.{comma, fields_of}
use Rattle.definitions.specs.Numbers.{number, number_list}
use Rattle.kv_text.specs.declared.AlleleKind.{AlleleKind}
use Rattle.kv_text.specs.declared.AlleleKind.TheVariants as allele
use Rattle.kv_text.specs.declared.Part.{Part}
use Rattle.std.specs.Prelude as std

-- a text's first field
unfoldable pub first_field : ℕ → List ℕ → List ℕ
first_field separator s = get_or (fields_of separator s) 0 []

-- its length
unfoldable pub field_length : ℕ → List ℕ → ℕ
field_length separator s = length (first_field separator s)

-- the bytes of a text from one offset to just before another
abbrev pub between : List ℕ → ℕ → ℕ → List ℕ
between s a e = take (e - a) (drop a s)

-- how many bytes fields have, each with its separator
unfoldable pub separated_length : List (List ℕ) → ℕ
separated_length [] = 0
separated_length (f ∷ fs) = length f + 1 + separated_length fs

-- where the field with this number begins: behind those before it
unfoldable pub field_start : ℕ → ℕ → List ℕ → ℕ
field_start separator n s = separated_length (take n (fields_of separator s))

-- where the field with this number stands, or that there are not so many
unfoldable pub FieldFound : List ℕ → ℕ → ℕ → std.Option Part → Type 0
FieldFound s separator n (std.Some field) =
    (n < length (fields_of separator s)) × (get_or (fields_of separator s) n [] ≡ between s field.at field.end) × (field.at ≤ field.end)
    × (field.end ≤ length s) × (field.at ≡ field_start separator n s)
    × (field.end ≡ field.at + length (get_or (fields_of separator s) n []))
FieldFound s separator n std.None = length (fields_of separator s) ≤ n

-- the number that the field at an offset of a list spells, and where the field ends; or it spells none
unfoldable pub digits_read : std.Option (ℕ × ℕ) → List ℕ → ℕ → Type 0
digits_read (std.Some (n, e)) s at = (number (first_field comma (drop at s)) ≡ some n) × (e ≡ at + field_length comma (drop at s))
digits_read std.None s at = number (first_field comma (drop at s)) ≡ none

-- the numbers that fields spell, up to the first that spells none
unfoldable pub first_numbers : List (List ℕ) → List ℕ
first_numbers [] = []
first_numbers (f ∷ fs) = before (number f) (first_numbers fs)
  where
    before : Option ℕ → List ℕ → List ℕ
    before none ns = []
    before (some n) ns = n ∷ ns

-- a list of numbers: it reads, as the first numbers of its fields, so many; or it does not
unfoldable pub numbers_read : std.Option ℕ → List ℕ → Type 0
numbers_read (std.Some n) s = (number_list s ≡ some (first_numbers (fields_of comma s))) × (n ≡ length (first_numbers (fields_of comma s)))
numbers_read std.None s = number_list s ≡ none

-- an ALT of this kind that is spelled so; letters of either case are read as capitals
abbrev pub allele_read : std.Option AlleleKind → List ℕ → Option Allele
allele_read (std.Some allele.Letters) s = some (letters (map capital s))
allele_read (std.Some allele.SpanDel) s = some span_del
allele_read (std.Some allele.NonRef) s = some non_ref
allele_read std.None s = none

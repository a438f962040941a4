-- Demand 3, and what is said of two orders of a cohort, for two calls that are given by their texts, from premises that are found
-- by computing. WorkedCohorts applies them.
use Prim.Native.Nat.{ℕ}
use Prim.Native.String.{String}
use lib.Dec.{T}
use mathlib.Core.Bool.{false}
use mathlib.Core.List.{List, [], ◌++◌, ◌∷◌, flatten, map}
use mathlib.Core.Option.{Option, some}
use mathlib.Core.Path.{◌∙◌, ◌≡◌, ap, ap₂, refl, subst₂, sym}
use Rattle.definitions.specs.Alleles.{alleles_of, written_alleles}
use Rattle.definitions.specs.Bytes.{joined_by, same_bytes, text}
use Rattle.definitions.specs.Checked.{Checked, ◌>>=◌, accepted, is_accepted, refused}
use Rattle.definitions.specs.Cohort.{Cohort, cohort_of}
use Rattle.definitions.specs.CombinedList.{Texts, combined_list}
use Rattle.definitions.specs.ListReader.{WrittenList, list_read}
use Rattle.definitions.specs.Numbers.{decimal}
use Rattle.definitions.specs.Records.{Record, record_end}
use Rattle.definitions.proofs.Evaluated.{evaluated}
use Rattle.laws.proofs.Bytes.{is_same}
use Rattle.laws.proofs.Checked.{value_or}
use Rattle.laws.proofs.CombinedListReadBack.{list_read_back}
use Rattle.laws.proofs.Tests.{clash}
use Rattle.demands.specs.Inserted.{Inserted, is_one_of, named, unnumbered}
use Rattle.demands.specs.Preserved.{Preserved}
use Rattle.demands.specs.Reordered.{Reordered, sites_named}
use Rattle.demands.specs.SameRecords.{SameRecords}
use Rattle.demands.proofs.Demand3.{demand3}
use Rattle.demands.proofs.TwoOrders.{two_orders}

-- two cohorts, the clip that both calls are given, and the reference of each
pub record TwoCalls : Type 0 where
  pub old : List ℕ
  pub new : List ℕ
  pub clip : Option (List ℕ)
  pub old_reference : Option (List ℕ)
  pub new_reference : Option (List ℕ)

abbrev old_texts : TwoCalls → Texts
old_texts k = record { cohort = k.old; clip = k.clip; reference = k.old_reference }

abbrev pub new_texts : TwoCalls → Texts
new_texts k = record { cohort = k.new; clip = k.clip; reference = k.new_reference }

-- ---- what the calls give

-- each call has its own scratch and output
unfoldable pub old_list : TwoCalls → Checked (List ℕ)
old_list k = combined_list (old_texts k) 64 4096

unfoldable pub new_list : TwoCalls → Checked (List ℕ)
new_list k = combined_list (new_texts k) 96 8192

-- what a text says as a cohort, and a list as records
unfoldable pub cohort_in : List ℕ → Cohort
cohort_in s = value_or (record { names = []; sites = [] }) (cohort_of s)

abbrev read_in : Checked WrittenList → WrittenList
read_in = value_or (record { names = []; records = [] })

unfoldable pub records_in : Checked (List ℕ) → List Record
records_in list = (read_in (list >>= list_read)).records

-- an accepted call has read its cohort
pub cohort_read : (t : Texts) (scratch_length out_length : ℕ) (list : List ℕ)
    → combined_list t scratch_length out_length ≡ accepted list → cohort_of t.cohort ≡ accepted (cohort_in t.cohort)
unfolding cohort_in value_or
cohort_read t scratch_length out_length list ok =
    let e = (list_read_back t scratch_length out_length list ok).from.cohort_read in
    rw e

-- and its list reads back as these records
pub records_read : (m : Checked (List ℕ)) (list : List ℕ) (w : WrittenList) → m ≡ accepted list → list_read list ≡ accepted w
    → w.records ≡ records_in m
unfolding records_in value_or ◌>>=◌
records_read m list w e f = sym (ap records_in e ∙ ap (λ (r : Checked WrittenList). (read_in r).records) f)

-- ---- demand 3 for them

pub accepted_value : (m : Checked (List ℕ)) → T (is_accepted m) → m ≡ accepted (value_or [] m)
unfolding is_accepted value_or
accepted_value (refused n) t = absurd t
accepted_value (accepted list) t = refl

-- both texts are read, as cohorts that stand so to each other
unfoldable pub BothRead : (Cohort → Cohort → Type 0) → Checked Cohort → Checked Cohort → Type 0
BothRead R (refused m) c = ⊥
BothRead R (accepted c1) (refused n) = ⊥
BothRead R (accepted c1) (accepted c2) = R c1 c2

-- the second list says again what the first says
pub SaidAgain : TwoCalls → Type 0
SaidAgain k = Preserved (cohort_in k.old).names (records_in (old_list k)) (cohort_in k.new).names (records_in (new_list k))

said_again : (k : TwoCalls) → T (is_accepted (old_list k)) → T (is_accepted (new_list k))
    → BothRead Inserted (cohort_of k.old) (cohort_of k.new) → SaidAgain k
unfolding old_list new_list SaidAgain BothRead
said_again k t1 t2 ins =
    let ok1 = accepted_value (old_list k) t1 in
    let ok2 = accepted_value (new_list k) t2 in
    let read1 = cohort_read (old_texts k) 64 4096 _ ok1 in
    let read2 = cohort_read (new_texts k) 96 8192 _ ok2 in
    let (records1, records2, back1, back2, preserved) =
    demand3 (old_texts k) (new_texts k) (cohort_in k.old) (cohort_in k.new) 64 96 4096 8192
    (value_or [] (old_list k)) (value_or [] (new_list k))
    refl read1 read2 (subst₂ (BothRead Inserted) read1 read2 ins) ok1 ok2 in
    rw (← records_read _ _ _ ok1 back1, ← records_read _ _ _ ok2 back2) preserved

-- ---- two orders of a cohort

-- the lists say the same
pub SaidAlike : TwoCalls → Type 0
SaidAlike k = SameRecords (cohort_in k.old).names (cohort_in k.new).names (records_in (old_list k)) (records_in (new_list k))

said_alike : (k : TwoCalls) (reference : List ℕ) → k.old_reference ≡ some reference → k.new_reference ≡ some reference
    → T (is_accepted (old_list k)) → T (is_accepted (new_list k))
    → BothRead Reordered (cohort_of k.old) (cohort_of k.new) → SaidAlike k
unfolding old_list new_list SaidAlike BothRead
said_alike k reference given1 given2 t1 t2 re =
    let ok1 = accepted_value (old_list k) t1 in
    let ok2 = accepted_value (new_list k) t2 in
    let read1 = cohort_read (old_texts k) 64 4096 _ ok1 in
    let read2 = cohort_read (new_texts k) 96 8192 _ ok2 in
    let (records1, records2, back1, back2, same) =
    two_orders (old_texts k) (new_texts k) (cohort_in k.old) (cohort_in k.new) 64 96 4096 8192 reference
    (value_or [] (old_list k)) (value_or [] (new_list k))
    refl given1 given2 read1 read2 (subst₂ (BothRead Reordered) read1 read2 re) ok1 ok2 in
    rw (← records_read _ _ _ ok1 back1, ← records_read _ _ _ ok2 back2) same

-- ---- what is shown of two calls

-- a record as `POS-END:REF,ALT`, and records with spaces between
abbrev pub shortly : Record → List ℕ
shortly r = decimal r.pos ++ text "-" ++ decimal (record_end r) ++ text ":" ++ written_alleles (alleles_of r.alleles)

abbrev pub outline : List Record → List ℕ
outline rs = joined_by 32 (map shortly rs)

-- the records of the two lists, and that the second says again what the first says
pub record Worked (k : TwoCalls) (old new : String) : Type 0 where
  pub old_list : outline (records_in (old_list k)) ≡ text old
  pub new_list : outline (records_in (new_list k)) ≡ text new
  pub again : SaidAgain k

pub worked : (k : TwoCalls) {old new : String} → T (is_accepted (old_list k)) → T (is_accepted (new_list k))
    → BothRead Inserted (cohort_of k.old) (cohort_of k.new)
    → outline (records_in (old_list k)) ≡ text old → outline (records_in (new_list k)) ≡ text new → Worked k old new
worked k t1 t2 ins e1 e2 = record { old_list = e1; new_list = e2; again = said_again k t1 t2 ins }

-- the records of the two lists, and that they say the same
pub record WorkedOrders (k : TwoCalls) (first second : String) : Type 0 where
  pub first_list : outline (records_in (old_list k)) ≡ text first
  pub second_list : outline (records_in (new_list k)) ≡ text second
  pub alike : SaidAlike k

pub worked_orders : (k : TwoCalls) (reference : List ℕ) {first second : String}
    → k.old_reference ≡ some reference → k.new_reference ≡ some reference
    → T (is_accepted (old_list k)) → T (is_accepted (new_list k))
    → BothRead Reordered (cohort_of k.old) (cohort_of k.new)
    → outline (records_in (old_list k)) ≡ text first → outline (records_in (new_list k)) ≡ text second → WorkedOrders k first second
worked_orders k reference given1 given2 t1 t2 re e1 e2 =
    record { first_list = e1; second_list = e2; alike = said_alike k reference given1 given2 t1 t2 re }

-- the records of the two lists of two orders, and that they do not say the same: REFs differ
pub record OrdersDiffer (k : TwoCalls) (first second : String) : Type 0 where
  pub reordered : BothRead Reordered (cohort_of k.old) (cohort_of k.new)
  pub first_list : outline (records_in (old_list k)) ≡ text first
  pub second_list : outline (records_in (new_list k)) ≡ text second
  pub differ : SaidAlike k → ⊥

abbrev refs : List Record → List (List ℕ)
refs = map (λ (r : Record). r.alleles.ref)

same_refs : (names1 names2 : List (List ℕ)) (l k : List Record) → SameRecords names1 names2 l k → refs l ≡ refs k
unfolding SameRecords
same_refs names1 names2 [] [] h = refl
same_refs names1 names2 [] (s ∷ k) h = absurd h
same_refs names1 names2 (r ∷ l) [] h = absurd h
same_refs names1 names2 (r ∷ l) (s ∷ k) (h, rest) =
    ap₂ (λ (a : List ℕ) (as' : List (List ℕ)). a ∷ as') h.ref (same_refs names1 names2 l k rest)

pub orders_differ : (k : TwoCalls) {first second : String} → BothRead Reordered (cohort_of k.old) (cohort_of k.new)
    → outline (records_in (old_list k)) ≡ text first → outline (records_in (new_list k)) ≡ text second
    → same_bytes (flatten (refs (records_in (old_list k)))) (flatten (refs (records_in (new_list k)))) ≡ false → OrdersDiffer k first second
unfolding SaidAlike
orders_differ k re e1 e2 apart = record {
  reordered = re;
  first_list = e1;
  second_list = e2;
  differ = λ alike. clash (is_same (ap flatten (same_refs _ _ _ _ alike))) apart;
}

-- every definition opened by one name that the premises of the worked calls are computed by
unfoldable pub computed : TwoCalls → TwoCalls
unfolding evaluated is_one_of named unnumbered value_or old_list new_list records_in is_accepted BothRead sites_named
computed k = k

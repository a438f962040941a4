-- Row 10: scratch of one place gives the lists of any other (`any_places`), and a call is refused with 10 exactly if a site names a
-- contig and there is no place (`row_ten`, `row_ten_back`).
use Prim.Native.Nat.{◌≤◌, ℕ}
use borrow.Author.Tests.{eq-eqb, le-leb, lt-ltb}
use lib.Dec.{eqb, leb, ltb}
use lib.ListN.{length}
use mathlib.Core.Bool.{◌&&◌, false}
use mathlib.Core.List.Memᴰ
use mathlib.Core.List.{List, [], ◌∷◌, flatten, map, map_congr_left}
use mathlib.Core.Path.{◌∙◌, ◌≡◌, ap, refl, sym}
use native.Mathlib.Decide.{dec_le}
use native.Mathlib.Omega.{arith}
use Rattle.definitions.specs.Bytes.{compare_bytes}
use Rattle.definitions.specs.Checked.{Checked, ◌>>=◌, ◌>>◌, accepted, in_order, refused, require, within}
use Rattle.definitions.specs.Cohort.{Site}
use Rattle.definitions.specs.CombinedList.{Input, Texts, combined_list, combined_records, contig_records, input_of, list_of}
use Rattle.definitions.specs.Intervals.{contigs_of}
use Rattle.definitions.specs.Lists.{ascending}
use Rattle.definitions.specs.Printed.{printed_list}
use Rattle.definitions.specs.Records.{Record}
use Rattle.laws.proofs.Bytes.{bytes_eq}
use Rattle.laws.proofs.Checked.{not_refused, not_required, refused_back, required, then, then_refused, within_refused}
use Rattle.laws.proofs.Members.{at_member}
use Rattle.laws.proofs.Orders.{ascending_member}
use Rattle.laws.proofs.RefusalNumbers.{input_numbered, numbered, placed_numbered}
use Rattle.laws.proofs.Tests.{both, clash}

-- ---- any number of places

pub contig_any_places : (x : Input) (places : ℕ) (contig : List ℕ) → 1 ≤ places
    → contig_records x places contig ≡ contig_records x 1 contig
unfolding contig_records ◌>>◌ ◌>>=◌ require
contig_any_places x places contig h = required 10 (leb 1 places) _ (le-leb 1 places h) refl

records_any_places : (x : Input) (places : ℕ) → 1 ≤ places → combined_records x places ≡ combined_records x 1
unfolding combined_records
records_any_places x places h =
    let contigs = contigs_of x.cohort.sites in
    ap (λ (cs : List (Checked (List Record))). in_order cs >>= λ records. accepted (flatten records))
    (map_congr_left {l = contigs} (λ contig m. contig_any_places x places contig h))

-- without sites there are no records, whatever the places
without_sites : (x : Input) (places : ℕ) → x.cohort.sites ≡ [] → combined_records x places ≡ accepted []
unfolding combined_records contigs_of ascending in_order ◌>>=◌ flatten
without_sites x places e =
    ap (λ (sites : List Site). in_order (map (contig_records x places) (contigs_of sites)) >>= λ records. accepted (flatten records)) e

-- row 10 does not come: there is a place, or no site asks for one; and then one place gives the same records
pub records_placed : (x : Input) (places : ℕ) → eqb places 0 && ltb 0 (length x.cohort.sites) ≡ false
    → combined_records x places ≡ combined_records x 1
records_placed x places placed = go (dec_le 1 places) x.cohort.sites refl
  where
    go : Dec (1 ≤ places) → (sites : List Site) → x.cohort.sites ≡ sites → combined_records x places ≡ combined_records x 1
    go (yes some) sites e = records_any_places x places some
    go (no none) [] e = without_sites x places e ∙ sym (without_sites x 1 e)
    go (no none) (s ∷ sites) e =
        let asked = ap length e in
        clash (both (eq-eqb places 0 (omega arith)) (lt-ltb 0 (length x.cohort.sites) (omega arith))) placed

pub list_any_places : (x : Input) (places : ℕ) → 1 ≤ places → list_of x places ≡ list_of x 1
unfolding list_of
list_any_places x places h =
    ap (λ (c : Checked (List Record)). c >>= λ records. accepted (printed_list x.cohort.names records)) (records_any_places x places h)

pub any_places : (t : Texts) (places room : ℕ) → 1 ≤ places → combined_list t places room ≡ combined_list t 1 room
unfolding combined_list ◌>>=◌
any_places t places room h = go (input_of t)
  where
    go : (m : Checked Input)
        → (m >>= λ x. list_of x places >>= λ list. within room list) ≡ (m >>= λ x. list_of x 1 >>= λ list. within room list)
    go (refused n) = refl
    go (accepted x) = ap (λ (c : Checked (List ℕ)). c >>= λ list. within room list) (list_any_places x places h)

-- ---- no place

-- the texts are in order, a site names a contig, and there is no place
pub record NoPlace (t : Texts) (places : ℕ) : Type 0 where
  pub input : Input
  pub read : input_of t ≡ accepted input
  pub some_site : 1 ≤ length input.cohort.sites
  pub no_place : places ≡ 0

row_ten_records : (t : Texts) (places : ℕ) (x : Input) → input_of t ≡ accepted x → combined_records x places ≡ refused 10
    → NoPlace t places
row_ten_records t places x read e =
    record { input = x; read = read; some_site = named x.cohort.sites refl; no_place = none (dec_le 1 places) }
  where
    named : (sites : List Site) → x.cohort.sites ≡ sites → 1 ≤ length sites
    named [] q = not_refused (sym e ∙ without_sites x places q)
    named (s ∷ sites) q = omega arith

    none : Dec (1 ≤ places) → places ≡ 0
    none (yes h) = absurd (omega (arith, (numbered (placed_numbered x places h) 10 e).0))
    none (no h) = omega arith

pub row_ten : (t : Texts) (places room : ℕ) → combined_list t places room ≡ refused 10 → NoPlace t places
unfolding combined_list list_of
row_ten t places room e =
    refused_back (input_of t) _ e (λ p. absurd (omega (arith, (numbered (input_numbered t) 10 p).1))) λ x p e.
    refused_back _ _ e
    (λ e. refused_back (combined_records x places) _ e (row_ten_records t places x p) (λ rs q e. not_refused (sym e)))
    (λ list q e. absurd (omega (arith, within_refused room list e)))

all_refused : {A B : Type 0} (f : A → Checked B) (n : ℕ) (l : List A) → 1 ≤ length l → ((a : A) → f a ≡ refused n)
    → in_order (map f l) ≡ refused n
unfolding in_order
all_refused f n [] h k = absurd (omega arith)
all_refused f n (a ∷ l) h k = then_refused (f a) _ (k a)

some_contig : (sites : List Site) → 1 ≤ length sites → 1 ≤ length (contigs_of sites)
unfolding contigs_of
some_contig [] h = absurd (omega arith)
some_contig (s ∷ sites) h =
    let contigs = map (λ (s : Site). s.contig) (s ∷ sites) in
    let (k, below, at) = at_member _ (ascending_member compare_bytes bytes_eq contigs (Memᴰ.head refl)) in
    omega (arith, below)

pub list_without_place : (x : Input) (places : ℕ) → 1 ≤ length x.cohort.sites → places ≡ 0 → list_of x places ≡ refused 10
unfolding list_of combined_records contig_records
list_without_place x places h none =
    then_refused _ _ (then_refused _ _
    (all_refused (contig_records x places) 10 (contigs_of x.cohort.sites) (some_contig _ h)
    (λ contig. not_required 10 (leb 1 places) _ (rw none))))

pub row_ten_back : (t : Texts) (places room : ℕ) → NoPlace t places → combined_list t places room ≡ refused 10
unfolding combined_list
row_ten_back t places room h =
    let x = h.input in
    then (input_of t) _ h.read (then_refused _ _ (list_without_place x places h.some_site h.no_place))

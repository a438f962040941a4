-- Which rows refuse: reading the texts 1 to 9, an interval 11 to 13 (and a contig without a scratch place 10), and an entry any row
-- from 1 to 15 (looking positions up to 18), never 0.
use Prim.Native.Nat.{◌≤◌, suc, ℕ}
use Prim.Native.String.{String}
use borrow.Author.Tests.{le-leb}
use lib.Dec.{eqb, leb}
use lib.Ieee.{Float}
use lib.ListN.{length}
use mathlib.Core.Bool.{Bool, cond, false, true}
use mathlib.Core.List.{List, [], ◌∷◌, flatten, map}
use mathlib.Core.Option.{Option, none, some}
use mathlib.Core.Path.{◌≡◌, refl, sym}
use native.Mathlib.Omega.{arith}
use Rattle.definitions.specs.AlleleSubset.{allele_count_fits, alt_fields, assigned_alleles, likelihood_subset, subset_to, unused_alt_subset, unused_alt_subset_within}
use Rattle.definitions.specs.Bytes.{comma, fields_of}
use Rattle.definitions.specs.CalledList.{called_list}
use Rattle.definitions.specs.Checked.{Checked, ◌>>=◌, ◌>>◌, accepted, in_order, or_refuse, read_each, refused, refused_as, require, within}
use Rattle.definitions.specs.ClipAndReference.{ReferenceSegment, optional_groups, segment_of, span_of}
use Rattle.definitions.specs.Cohort.{Site, SiteText, checked_site, cohort_of, sample_name, samples_of, site_of, site_text_of}
use Rattle.definitions.specs.CombinedList.{Input, Texts, combined_list, combined_records, contig_records, input_of, interval_record, list_of, record_intervals}
use Rattle.definitions.specs.Intervals.{Interval, contigs_of}
use Rattle.definitions.specs.Lines.{Line, line_at}
use Rattle.definitions.specs.ListReader.{list_read, record_read, sample_data_read, written_list}
use Rattle.definitions.specs.Lists.{any_of, filter_by, numbers_from}
use Rattle.definitions.specs.LookUp.{Place, look_up, look_up_within, looked_up, place_of, places_of, reaches, read_to, read_to_last}
use Rattle.definitions.specs.MergedRef.{merged_ref, ref_letter, shared_ref, site_ref, starts_at}
use Rattle.definitions.specs.Printed.{printed_list}
use Rattle.definitions.specs.Records.{Record, coalesce_blocks, record_of}
use Rattle.definitions.specs.ReverseTrim.{alleles_from, trimmed_alleles}
use Rattle.laws.proofs.Checked.{not_refused, required}

-- a row's number from low to high
abbrev pub From : ℕ → ℕ → ℕ → Type 0
From low high n = (low ≤ n) × (n ≤ high)

-- it is accepted, or refused with a number from low to high
pub data Numbered (low high : ℕ) {A : Type 0} : Checked A → Type 0 where
  well : (a : A) → Numbered low high (accepted a)
  ill : (n : ℕ) → From low high n → Numbered low high (refused n)

-- the number of a refusal
pub numbered : {A : Type 0} {low high : ℕ} {c : Checked A} → Numbered low high c → (n : ℕ) → c ≡ refused n → From low high n
numbered (well a) n e = not_refused (sym e)
numbered (ill m h) n e = let same : m ≡ n = cc in omega arith

pub wider : {A : Type 0} {low high low' high' : ℕ} {c : Checked A} → (low' ≤ low) × (high ≤ high') → Numbered low high c
    → Numbered low' high' c
wider h (well a) = well a
wider h (ill n l) = ill n (omega arith)

module _ {low high : ℕ} where
  then_numbered : {A B : Type 0} {m : Checked A} {f : A → Checked B}
      → Numbered low high m → ((a : A) → Numbered low high (f a)) → Numbered low high (m >>= f)
  unfolding ◌>>=◌
  then_numbered (well a) k = k a
  then_numbered (ill n h) k = ill n h

  required_numbered : {B : Type 0} (n : ℕ) (b : Bool) {r : Checked B} → From low high n → Numbered low high r
      → Numbered low high (require n b >> r)
  unfolding ◌>>◌ ◌>>=◌ require
  required_numbered n true h k = k
  required_numbered n false h k = ill n h

  or_numbered : {A : Type 0} (n : ℕ) (o : Option A) → From low high n → Numbered low high (or_refuse n o)
  unfolding or_refuse
  or_numbered n none h = ill n h
  or_numbered n (some a) h = well a

  each_numbered : {G A : Type 0} (read : List A → G → Checked A) → ((before : List A) (g : G) → Numbered low high (read before g))
      → (before : List A) (gs : List G) → Numbered low high (read_each read before gs)
  unfolding read_each
  each_numbered read h before [] = well []
  each_numbered read h before (g ∷ gs) =
      then_numbered (h before g) λ a. then_numbered (each_numbered read h (a ∷ before) gs) λ rest. well (a ∷ rest)

  order_numbered : {A B : Type 0} (f : A → Checked B) → ((a : A) → Numbered low high (f a)) → (as' : List A)
      → Numbered low high (in_order (map f as'))
  unfolding in_order
  order_numbered f h [] = well []
  order_numbered f h (a ∷ as') = then_numbered (h a) λ b. then_numbered (order_numbered f h as') λ bs. well (b ∷ bs)

  either_numbered : {A : Type 0} (b : Bool) {c d : Checked A} → Numbered low high c → Numbered low high d
      → Numbered low high (cond b c d)
  either_numbered true h k = h
  either_numbered false h k = k

as_numbered : {A : Type 0} (n : ℕ) (c : Checked A) → Numbered n n (refused_as n c)
unfolding refused_as
as_numbered n (refused m) = ill n (omega arith)
as_numbered n (accepted a) = well a

-- ---- texts: 1 to 9

abbrev ByReading : {A : Type 0} → Checked A → Type 0
ByReading c = Numbered 1 9 c

line_numbered : {A : Type 0} (group : List Line) (index : ℕ) (key : String) (read : List ℕ → Option A)
    → ByReading (line_at group index key read)
unfolding line_at
line_numbered group index key read = or_numbered 1 _ (omega arith)

sample_numbered : (before : List (List ℕ)) (l : Line) → ByReading (sample_name before l)
unfolding sample_name
sample_numbered before l = then_numbered (line_numbered _ 0 "sample" _) λ n. required_numbered 3 _ (omega arith) (well n)

samples_numbered : (ls : List Line) → ByReading (samples_of ls)
unfolding samples_of
samples_numbered ls =
    then_numbered (line_numbered ls 0 "samples" _) λ count.
    required_numbered 2 _ (omega arith) (each_numbered sample_name sample_numbered [] _)

text_numbered : (group : List Line) → ByReading (site_text_of group)
unfolding site_text_of
text_numbered group =
    then_numbered (line_numbered group 0 "site" _) λ _. then_numbered (line_numbered group 1 "contig" _) λ _.
    then_numbered (line_numbered group 2 "start" _) λ _. then_numbered (line_numbered group 3 "end" _) λ _.
    then_numbered (line_numbered group 4 "ref" _) λ _. then_numbered (line_numbered group 5 "alt" _) λ _.
    then_numbered (line_numbered group 6 "gq" _) λ _. then_numbered (line_numbered group 7 "dp" _) λ _.
    then_numbered (line_numbered group 8 "mindp" _) λ _. then_numbered (line_numbered group 9 "ad" _) λ _.
    then_numbered (line_numbered group 10 "pl" _) λ _. well _

site_numbered : (samples before : ℕ) (t : SiteText) → ByReading (checked_site samples before t)
unfolding checked_site
site_numbered samples before t =
    required_numbered 2 _ (omega arith) (required_numbered 3 _ (omega arith) (required_numbered 4 _ (omega arith)
    (then_numbered (or_numbered 5 _ (omega arith)) λ _.
    required_numbered 6 _ (omega arith) (required_numbered 7 _ (omega arith) (required_numbered 8 _ (omega arith) (well _))))))

cohort_numbered : (s : List ℕ) → ByReading (cohort_of s)
unfolding cohort_of site_of
cohort_numbered s =
    then_numbered (samples_numbered _) λ names.
    then_numbered (each_numbered (site_of names) (λ before g. then_numbered (text_numbered g) λ t. site_numbered _ _ t) [] _) λ sites.
    well _

groups_numbered : {A : Type 0} (read : List Line → Checked A) (o : Option (List ℕ)) → ByReading (optional_groups read o)
unfolding optional_groups
groups_numbered read none = well none
groups_numbered read (some s) = then_numbered (wider (omega arith) (as_numbered 9 _)) λ gs. well (some gs)

pub input_numbered : (t : Texts) → ByReading (input_of t)
unfolding input_of
input_numbered t =
    required_numbered 2 _ (omega arith) (then_numbered (cohort_numbered _) λ _.
    then_numbered (groups_numbered span_of _) λ _. then_numbered (groups_numbered segment_of _) λ _. well _)

-- ---- an interval: 11 to 13

abbrev ByInterval : {A : Type 0} → Checked A → Type 0
ByInterval c = Numbered 11 13 c

letter_numbered : (reference : Option (List ReferenceSegment)) (contig : List ℕ) (position : ℕ) (covering : List Site)
    → ByInterval (ref_letter reference contig position covering)
unfolding ref_letter
letter_numbered none contig position covering = well _
letter_numbered (some segments) contig position covering = then_numbered (or_numbered 11 _ (omega arith)) λ letter. well _

shared_numbered : (refs : List (List ℕ)) → ByInterval (shared_ref refs)
unfolding shared_ref
shared_numbered refs = required_numbered 12 _ (omega arith) (well _)

ref_numbered : (reference : Option (List ReferenceSegment)) (contig : List ℕ) (position : ℕ) (covering : List Site)
    → ByInterval (merged_ref reference contig position covering)
unfolding merged_ref
ref_numbered reference contig position covering =
    either_numbered (any_of (starts_at position) covering) (shared_numbered (map site_ref (filter_by (starts_at position) covering)))
    (letter_numbered reference contig position covering)

of_numbered : (reference : Option (List ReferenceSegment)) (samples : ℕ) (contig : List ℕ) (i : Interval) (covering : List Site)
    → ByInterval (record_of reference samples contig i covering)
unfolding record_of
of_numbered reference samples contig i covering =
    then_numbered (ref_numbered reference contig i.first covering) λ ref. required_numbered 13 _ (omega arith) (well _)

record_numbered : (x : Input) (contig : List ℕ) (i : Interval) → ByInterval (interval_record x contig i)
unfolding interval_record
record_numbered x contig i = of_numbered x.reference _ contig i _

-- ---- all intervals of all contigs: 10 to 13, and with a place 11 to 13

module _ (x : Input) (scratch : ℕ) where
  intervals_numbered : (contig : List ℕ)
      → ByInterval (in_order (map (interval_record x contig) (record_intervals x contig))
      >>= λ records. accepted (coalesce_blocks records))
  intervals_numbered contig =
      then_numbered (order_numbered (interval_record x contig) (record_numbered x contig) (record_intervals x contig)) λ records.
      well (coalesce_blocks records)

  contigs_numbered : {low : ℕ} → ((contig : List ℕ) → Numbered low 13 (contig_records x scratch contig))
      → Numbered low 13 (combined_records x scratch)
  unfolding combined_records
  contigs_numbered h =
      then_numbered (order_numbered (contig_records x scratch) h (contigs_of x.cohort.sites)) λ records. well (flatten records)

  records_numbered : Numbered 10 13 (combined_records x scratch)
  unfolding contig_records
  records_numbered = contigs_numbered λ contig.
      required_numbered 10 _ (omega arith) (wider (omega arith) (intervals_numbered contig))

  pub placed_numbered : 1 ≤ scratch → Numbered 11 13 (combined_records x scratch)
  unfolding contig_records
  placed_numbered h = contigs_numbered λ contig.
      rw (required 10 (leb 1 scratch) _ (le-leb 1 scratch h) refl) (intervals_numbered contig)

-- ---- the entries: 1 to 15

abbrev pub ByRow : {A : Type 0} → Checked A → Type 0
ByRow c = Numbered 1 15 c

pub within_numbered : {A : Type 0} (out : ℕ) (values : List A) → ByRow (within out values)
unfolding within
within_numbered out values = required_numbered 14 _ (omega arith) (well values)

pub list_numbered : (t : Texts) (scratch out : ℕ) → ByRow (combined_list t scratch out)
unfolding combined_list list_of
list_numbered t scratch out =
    then_numbered (wider (omega arith) (input_numbered t)) λ x.
    then_numbered (then_numbered (wider (omega arith) (records_numbered x scratch)) λ records.
    well (printed_list x.cohort.names records)) λ list.
    within_numbered out list

-- ---- a list read back, and called

data_numbered : (group : List Line) (n sample : ℕ) → ByReading (sample_data_read group n sample)
unfolding sample_data_read
data_numbered group n sample =
    then_numbered (line_numbered group _ "gt" _) λ _. then_numbered (line_numbered group _ "gq" _) λ _.
    then_numbered (line_numbered group _ "dp" _) λ _. then_numbered (line_numbered group _ "mindp" _) λ _.
    then_numbered (line_numbered group _ "ad" _) λ _. then_numbered (line_numbered group _ "pl" _) λ _. well _

alts_data_numbered : (group : List Line) (alt : List ℕ) (samples : ℕ)
    → ByReading (in_order (map (sample_data_read group (suc (length (fields_of comma alt)))) (numbers_from 0 samples)))
alts_data_numbered group alt samples = order_numbered _ (data_numbered group (suc (length (fields_of comma alt)))) (numbers_from 0 samples)

read_numbered : (samples records : ℕ) (before : List Record) (group : List Line) → ByReading (record_read samples records before group)
unfolding record_read
read_numbered samples records before group =
    required_numbered 1 _ (omega arith) (then_numbered (line_numbered group 0 "contig" _) λ _.
    then_numbered (line_numbered group 1 "pos" _) λ _. then_numbered (line_numbered group 2 "end" _) λ _.
    then_numbered (line_numbered group 3 "ref" _) λ _. then_numbered (line_numbered group 4 "alt" _) λ alt.
    then_numbered (alts_data_numbered group alt samples) λ _. required_numbered 4 _ (omega arith)
    (then_numbered (or_numbered 5 _ (omega arith)) λ _. required_numbered 6 _ (omega arith) (required_numbered 7 _ (omega arith)
    (required_numbered 8 _ (omega arith) (well _)))))

pub called_numbered : (s : List ℕ) (out : ℕ) → ByRow (called_list s out)
unfolding called_list written_list list_read
called_numbered s out =
    then_numbered
    (wider (omega arith) (required_numbered 2 _ (omega arith) (then_numbered (samples_numbered _) λ names.
    then_numbered (line_numbered _ _ "records" _) λ count.
    then_numbered (each_numbered _ (read_numbered (length names) count) [] _) λ _. well _))) λ _.
    within_numbered out _

-- ---- pairs looked up: 1 to 8, 14 and 18

place_numbered : (before : List Place) (group : List Line) → Numbered 1 18 (place_of before group)
unfolding place_of
place_numbered before group =
    then_numbered (wider (omega arith) (line_numbered group 0 "contig" _)) λ _.
    then_numbered (wider (omega arith) (line_numbered group 1 "pos" _)) λ _. required_numbered 18 _ (omega arith) (well _)

reached_numbered : (samples records : ℕ) (p : Place) (before : List Record) (gs : List (List Line)) → ByReading (read_to samples records p before gs)
unfolding read_to
reached_numbered samples records p before [] = well []
reached_numbered samples records p before (g ∷ gs) =
    then_numbered (read_numbered samples records before g) λ r.
    then_numbered (either_numbered (reaches p r) (well []) (reached_numbered samples records p (r ∷ before) gs)) λ rest. well _

last_numbered : (samples records : ℕ) (o : Option Place) (gs : List (List Line)) → ByReading (read_to_last samples records o gs)
unfolding read_to_last
last_numbered samples records none gs = well []
last_numbered samples records (some p) gs = reached_numbered samples records p [] gs

pub look_up_numbered : (s asked : List ℕ) (out : ℕ) → Numbered 1 18 (look_up_within s asked out)
unfolding look_up_within look_up looked_up places_of
look_up_numbered s asked out =
    then_numbered
    (required_numbered 2 _ (omega arith) (then_numbered (each_numbered place_of place_numbered [] _) λ places.
    then_numbered (wider (omega arith) (samples_numbered _)) λ names.
    then_numbered (wider (omega arith) (line_numbered _ _ "records" _)) λ count.
    then_numbered (wider (omega arith) (last_numbered _ _ _ _)) λ records. well _)) λ l.
    required_numbered 14 _ (omega arith) (well l)

-- ---- alleles and likelihoods

alleles_numbered : (fields : List (List ℕ)) → ByRow (alleles_from fields)
unfolding alleles_from
alleles_numbered [] = ill 5 (omega arith)
alleles_numbered (ref ∷ alts) = then_numbered (or_numbered 5 _ (omega arith)) λ _. well _

pub trimmed_numbered : (s : List ℕ) (out : ℕ) → ByRow (trimmed_alleles s out)
unfolding trimmed_alleles
trimmed_numbered s out = then_numbered (alleles_numbered _) λ _. within_numbered out _

pub subset_numbered : (gl : List Float) (n : ℕ) (keep : List ℕ) (out : ℕ) → ByRow (likelihood_subset gl n keep out)
unfolding likelihood_subset
subset_numbered gl n keep out = required_numbered 15 _ (omega arith) (within_numbered out _)

to_numbered : (keep : List ℕ) (alts : List (List ℕ)) (gl : List Float) (ad : List ℕ) → ByRow (subset_to keep alts gl ad)
unfolding subset_to
to_numbered keep alts gl ad = required_numbered 15 _ (omega arith) (well _)

made_numbered : (alts gt : List ℕ) (gl : List Float) (ad : List ℕ) → ByRow (unused_alt_subset alts gt gl ad)
unfolding unused_alt_subset
made_numbered alts gt gl ad =
    let n = suc (length (alt_fields alts)) in
    let keep = assigned_alleles n gt in
    required_numbered 15 (allele_count_fits n) (omega arith) (either_numbered (eqb (length keep) n) (well _) (to_numbered keep (alt_fields alts) gl ad))

pub unused_numbered : (alts gt : List ℕ) (gl : List Float) (ad : List ℕ) (a b d : ℕ) → ByRow (unused_alt_subset_within alts gt gl ad a b d)
unfolding unused_alt_subset_within
unused_numbered alts gt gl ad a b d = then_numbered (made_numbered alts gt gl ad) λ s. required_numbered 14 _ (omega arith) (well s)

-- Worked examples, about the definitions alone and by computation: document 01's printed list, the rows that it marks under
-- 'Checked by hand', its refusals, and the slips that it rules out.
use Prim.Native.Nat.{ℕ}
use Prim.Native.String.{String}
use lib.Dec.{T}
use lib.Ieee.{Float, binary64, to_bits}
use mathlib.Core.Bool.{Bool}
use mathlib.Core.List.{List, [], ◌++◌, ◌∷◌, flat_map, map}
use mathlib.Core.Option.{none, some}
use mathlib.Core.Path.{◌≡◌, refl}
use Rattle.definitions.specs.AlleleSubset.{likelihood_subset}
use Rattle.definitions.specs.Alleles.{alleles_of, written_alleles}
use Rattle.definitions.specs.Answers.{call_program, combine_program, depth_program, look_up_program, looks_program, printed_answer}
use Rattle.definitions.specs.Bytes.{joined_by, same_bytes, text}
use Rattle.definitions.specs.CalledGenotypes.{LeastPls, gq_from_least_pls, gq_from_pl, least_pls, with_next_pl}
use Rattle.definitions.specs.CalledList.{called_data}
use Rattle.definitions.specs.Checked.{Checked, ◌>>=◌, accepted, refused}
use Rattle.definitions.specs.CombinedList.{Texts, combined_list, combined_records, input_of}
use Rattle.definitions.specs.DepthWindows.{depth_windows}
use Rattle.definitions.specs.Genotypes.{SampleData, best_genotype, genotype_index}
use Rattle.definitions.specs.Likelihoods.{log10_from_pl}
use Rattle.definitions.specs.Lines.{line}
use Rattle.definitions.specs.ListReader.{written_list}
use Rattle.definitions.specs.Lists.{all_of}
use Rattle.definitions.specs.Numbers.{decimal, decimals, written_or_missing}
use Rattle.definitions.specs.Printed.{printed_values, written_genotype}
use Rattle.definitions.specs.Records.{Record}
use Rattle.definitions.specs.ReverseTrim.{trimmed_alleles}
use Rattle.definitions.specs.SelectionSheet.{selection_sheet}
use Rattle.definitions.proofs.Evaluated.{evaluated}

-- ---- texts, written shortly

-- a site group on contig c with no GQ and AD
abbrev site_group : String → String → String → String → String → String → String → String → List ℕ
site_group sample start end ref alt dp mindp pl =
    line "site" (text sample) ++ line "contig" (text "c") ++ line "start" (text start) ++ line "end" (text end)
    ++ line "ref" (text ref) ++ line "alt" (text alt)
    ++ line "gq" (text ".") ++ line "dp" (text dp) ++ line "mindp" (text mindp) ++ line "ad" (text ".") ++ line "pl" (text pl)

-- a site with PL alone; a site, and a block, with no values
abbrev with_pl : String → String → String → String → String → String → List ℕ
with_pl sample start end ref alt pl = site_group sample start end ref alt "." "." pl

abbrev bare : String → String → String → String → String → List ℕ
bare sample start end ref alt = with_pl sample start end ref alt "."

abbrev block : String → String → String → List ℕ
block start end ref = bare "0" start end ref "<NON_REF>"

-- a block with DP 7 and this MIN_DP
abbrev with_min_dp : String → String → String → String → List ℕ
with_min_dp sample start end mindp = site_group sample start end "A" "<NON_REF>" "7" mindp "."

abbrev one : List ℕ
one = text "samples=1\nsample=S0\n"

abbrev two : List ℕ
two = text "samples=2\nsample=S0\nsample=S1\n"

-- ---- what is looked at

-- a cohort, with no clip and no reference
abbrev alone : List ℕ → Texts
alone cohort = record { cohort = cohort; clip = none; reference = none }

abbrev records_of : List ℕ → Checked (List Record)
records_of cohort = input_of (alone cohort) >>= λ x. combined_records x 8192

-- the answers, one after the other, with `;` between
abbrev shown : {A : Type 0} → (A → List ℕ) → Checked (List A) → List ℕ
shown show (refused n) = line "refused" (decimal n)
shown show (accepted as') = joined_by 59 (map show as')

-- the alleles of each record of a cohort
abbrev alleles_in : List ℕ → List ℕ
alleles_in cohort = shown (λ (r : Record). written_alleles (alleles_of r.alleles)) (records_of cohort)

-- with the samples' PL
abbrev alleles_and_pl : List ℕ → List ℕ
alleles_and_pl cohort =
    shown (λ (r : Record). written_alleles (alleles_of r.alleles) ++ flat_map (λ (v : SampleData). text " " ++ written_or_missing decimals v.pl) r.sample_data)
    (records_of cohort)

-- `pos` and `end` of each record of a cohort
abbrev spans : List ℕ → List ℕ
spans cohort = shown (λ (r : Record). decimal r.pos ++ text "-" ++ written_or_missing decimal r.end) (records_of cohort)

-- REF of each record of a cohort with this clip and this reference
abbrev refs_in : List ℕ → String → String → List ℕ
refs_in cohort clip reference =
    shown (λ (r : Record). r.alleles.ref)
    (input_of (record { cohort = cohort; clip = some (text clip); reference = some (text reference) }) >>= λ x. combined_records x 8192)

-- what the whole call answers, with this much scratch and output
abbrev answer_within : ℕ → ℕ → Texts → List ℕ
answer_within scratch_length out_length t = printed_answer (combined_list t scratch_length out_length)

abbrev answer : List ℕ → List ℕ
answer cohort = answer_within 8192 65536 (alone cohort)

-- one site of one sample, as the whole call answers it
abbrev answer_to_site : String → String → String → String → String → List ℕ
answer_to_site start end ref alt pl = answer (one ++ with_pl "0" start end ref alt pl)

abbrev trimmed : String → List ℕ
trimmed alleles = printed_answer (trimmed_alleles (text alleles) 65536)

-- a sample with this PL and AD and no more
abbrev with_values : List ℕ → List ℕ → SampleData
with_values ad pl = record { gt = none; gq = none; dp = none; mindp = none; ad = some ad; pl = some pl }

-- ---- the tables

pub record Row : Type 0 where
  pub found : List ℕ
  pub wanted : String

infixl 4 ◌gives◌
abbrev ◌gives◌ : List ℕ → String → Row
found gives wanted = record { found = found; wanted = wanted }

-- what document 01 marks under 'Checked by hand'
abbrev pub checked_by_hand : List Row
checked_by_hand =
    (decimal (genotype_index 0 2) gives "3")
    ∷ (decimal (genotype_index 15 15) gives "135")
    ∷ (alleles_in (two ++ bare "0" "10" "10" "A" "G,<NON_REF>" ++ bare "1" "10" "11" "AT" "A,<NON_REF>") gives "AT,A,GT,<NON_REF>;T,*,<NON_REF>")
    ∷ (alleles_and_pl (one ++ with_pl "0" "20" "22" "ACG" "A,<NON_REF>" "1,2,3,4,5,6")
    gives "ACG,A,<NON_REF> 1,2,3,4,5,6;C,*,<NON_REF> 1,2,3,4,5,6;G,*,<NON_REF> 1,2,3,4,5,6")
    ∷ (alleles_and_pl (one ++ with_pl "0" "20" "21" "AC" "GT,<NON_REF>" "1,2,3,4,5,6") gives "AC,GT,<NON_REF> 1,2,3,4,5,6;C,*,<NON_REF> 1,4,6,4,6,6")
    ∷ (printed_values (called_data 3 2 (with_values (7 ∷ 8 ∷ 9 ∷ []) (90 ∷ 80 ∷ 70 ∷ 10 ∷ 20 ∷ 30 ∷ []))) gives "gq=10\ndp=.\nad=7,8\npl=0,10,10\n")
    ∷ (decimal (gq_from_pl (0 ∷ 0 ∷ 5 ∷ [])) gives "0")
    ∷ (decimal (gq_from_pl (0 ∷ 150 ∷ 200 ∷ [])) gives "99")
    ∷ (trimmed "AAT,AT" gives "AA,A")
    ∷ (trimmed "CAT,GAT" gives "C,G")
    ∷ (trimmed "AT,T" gives "AT,T")
    ∷ (written_genotype (best_genotype 2 (5 ∷ 5 ∷ 9 ∷ [])) gives "0/0")
    ∷ (spans (one ++ block "10" "12" "A" ++ block "13" "15" "A") gives "10-15")
    ∷ (spans (one ++ block "10" "12" "A" ++ block "13" "15" "C") gives "10-12;13-15")
    ∷ (spans (one ++ block "10" "12" "A" ++ block "14" "15" "A") gives "10-12;14-15")
    ∷ []

-- 'What is sent back': the example of each row; then the greatest number and one more, no sites, and absent files
abbrev pub refusals : List Row
refusals =
    (answer_to_site "010" "10" "A" "<NON_REF>" "." gives "refused=1\n")
    ∷ (answer (text "samples=0\n") gives "refused=2\n")
    ∷ (answer (two ++ bare "2" "10" "10" "A" "<NON_REF>") gives "refused=3\n")
    ∷ (answer_to_site "10" "9" "A" "<NON_REF>" "." gives "refused=4\n")
    ∷ (answer_to_site "10" "10" "A" "G,G" "." gives "refused=5\n")
    ∷ (answer_to_site "10" "10" "A" "G" "." gives "refused=6\n")
    ∷ (answer_to_site "10" "12" "A" "G,<NON_REF>" "." gives "refused=7\n")
    ∷ (answer_to_site "10" "10" "A" "<NON_REF>" "0,30" gives "refused=8\n")
    ∷ (answer_within 8192 65536 (record { cohort = one; clip = none; reference = some (text "contig=c\nfirst=1\nbases=AX\n") }) gives "refused=9\n")
    ∷ (answer_within 0 65536 (alone (one ++ block "10" "19" "A")) gives "refused=10\n")
    ∷ (answer_within 8192 65536 (record {
      cohort = one ++ block "10" "19" "A";
      clip = some (text "contig=c\nstart=13\nend=19\n");
      reference = some (text "contig=c\nfirst=1\nbases=AC\n");
    }) gives "refused=11\n")
    ∷ (answer (two ++ bare "0" "10" "11" "AT" "A,<NON_REF>" ++ bare "1" "10" "10" "C" "G,<NON_REF>") gives "refused=12\n")
    ∷ (answer
    (text "samples=3\nsample=S0\nsample=S1\nsample=S2\n"
    ++ bare "0" "10" "10" "A" "AA,AC,AG,AT,CA,CC,<NON_REF>"
    ++ bare "1" "10" "10" "A" "CG,CT,GA,GC,GG,GT,<NON_REF>"
    ++ bare "2" "10" "10" "A" "TA,TC,TG,TT,AAA,AAC,<NON_REF>") gives "refused=13\n")
    ∷ (answer_within 8192 0 (alone one) gives "refused=14\n")
    ∷ (shown (λ (x : Float). decimal (to_bits binary64 x)) (likelihood_subset (map log10_from_pl (0 ∷ 30 ∷ [])) 2 (0 ∷ []) 136) gives "refused=15\n")
    ∷ (spans (one ++ block "2147483647" "2147483647" "A") gives "2147483647-.")
    ∷ (answer_to_site "1" "2147483648" "A" "<NON_REF>" "." gives "refused=1\n")
    ∷ (answer one gives "samples=1\nsample=S0\nrecords=0\n")
    ∷ (trimmed "AT,AT" gives "refused=5\n")
    ∷ (combine_program none none none gives "refused=1\n")
    ∷ (call_program none gives "refused=1\n")
    ∷ []

-- 'Slips to rule out' that the rows above would let through, and which of two refusals decides
abbrev pub slips : List Row
slips =
    (alleles_in (two ++ bare "0" "10" "10" "A" "*,<NON_REF>" ++ bare "1" "10" "11" "AT" "A,<NON_REF>") gives "AT,A,*,<NON_REF>;T,*,<NON_REF>")
    ∷ (decimal (gq_from_pl (30 ∷ 0 ∷ 20 ∷ [])) gives "20")
    ∷ (spans (one ++ site_group "0" "10" "12" "A" "<NON_REF>" "7" "." "." ++ site_group "0" "13" "15" "A" "<NON_REF>" "8" "." ".") gives "10-12;13-15")
    ∷ (shown (λ (x : Float). decimal (to_bits binary64 x)) (likelihood_subset (map log10_from_pl (40 ∷ 0 ∷ 50 ∷ 60 ∷ 70 ∷ 80 ∷ [])) 3 (2 ∷ 0 ∷ []) 136)
    gives "13839561654909534208;13835058055282163712;0")
    ∷ (refs_in (one ++ block "10" "19" "A") "contig=c\nstart=13\nend=13\ncontig=c\nstart=14\nend=14\n"
    "contig=c\nfirst=15\nbases=T\ncontig=c\nfirst=13\nbases=g\ncontig=c\nfirst=10\nbases=AAAAaAAAAA\n" gives "G;A")
    ∷ (answer_within 1 65536 (alone (one ++ block "10" "19" "A"))
    gives "samples=1\nsample=S0\nrecords=1\ncontig=c\npos=10\nend=19\nref=A\nalt=<NON_REF>\ngt=.\ngq=.\ndp=.\nmindp=.\nad=.\npl=.\n")
    ∷ (answer_within 0 65536 (alone one) gives "samples=1\nsample=S0\nrecords=0\n")
    ∷ (alleles_in (one ++ bare "0" "10" "13" "ACGT" "A,<NON_REF>" ++ bare "0" "12" "12" "G" "T,<NON_REF>" ++ bare "0" "12" "12" "G" "C,<NON_REF>")
    gives "ACGT,A,<NON_REF>;C,*,<NON_REF>;G,T,<NON_REF>;T,*,<NON_REF>")
    ∷ (alleles_in (two ++ bare "0" "10" "12" "A" "<NON_REF>" ++ bare "1" "9" "11" "GAT" "G,<NON_REF>")
    gives "GAT,G,<NON_REF>;A,*,<NON_REF>;T,*,<NON_REF>;N,<NON_REF>")
    ∷ (alleles_in (two ++ bare "0" "10" "11" "AC" "A,<NON_REF>" ++ bare "1" "9" "11" "GAT" "G,<NON_REF>")
    gives "GAT,G,<NON_REF>;AC,A,*,<NON_REF>;C,*,<NON_REF>")
    ∷ (spans (one ++ with_min_dp "0" "10" "12" "5" ++ with_min_dp "0" "13" "15" "6") gives "10-12;13-15")
    ∷ (spans (one ++ with_min_dp "0" "10" "12" "5" ++ with_min_dp "0" "13" "15" "5") gives "10-15")
    ∷ (spans (two ++ with_min_dp "0" "10" "12" "9" ++ with_min_dp "0" "13" "15" "9" ++ bare "1" "10" "12" "A" "<NON_REF>") gives "10-15")
    ∷ (answer (one ++ with_min_dp "0" "10" "10" "5")
    gives "samples=1\nsample=S0\nrecords=1\ncontig=c\npos=10\nend=.\nref=A\nalt=<NON_REF>\ngt=.\ngq=.\ndp=7\nmindp=5\nad=.\npl=.\n")
    ∷ (answer (one ++ text "site=0\ncontig=c\nstart=10\nend=9\nref=A\nalt=<NON_REF>\ngq=.\ndp=.\nad=.\npl=.\n") gives "refused=1\n")
    ∷ (answer (one ++ with_min_dp "0" "10" "9" "05") gives "refused=1\n")
    ∷ (answer_to_site "10" "9" "A" "G,G" "." gives "refused=4\n")
    ∷ (answer_to_site "10" "10" "A" "G,g,<NON_REF>" "." gives "refused=5\n")
    ∷ (answer_to_site "10" "10" "a" "A,<NON_REF>" "." gives "refused=5\n")
    ∷ (answer_to_site "10" "10" "a" "g,<nON_REF>" "." gives "refused=5\n")
    ∷ (alleles_in (two ++ bare "0" "10" "10" "a" "g,<NON_REF>" ++ bare "1" "10" "11" "At" "G,a,<NON_REF>") gives "AT,G,A,GT,<NON_REF>;T,*,<NON_REF>")
    ∷ (alleles_in (one ++ bare "0" "10" "10" "n" "c,<NON_REF>") gives "N,C,<NON_REF>")
    ∷ (trimmed "aaT,At" gives "AA,A")
    ∷ (call_program (some (text "samples=1\nsample=S0\nrecords=1\ncontig=c\npos=10\nend=.\nref=a\nalt=t,<NON_REF>\n"
    ++ text "gt=0/1\ngq=40\ndp=8\nmindp=6\nad=.\npl=40,0,50,60,70,80\n"))
    gives "samples=1\nsample=S0\nrecords=1\ncontig=c\npos=10\nref=A\nalt=T\ngq=40\ndp=8\nad=.\npl=40,0,50\n")
    ∷ (call_program (some (text "samples=1\nsample=S0\nrecords=1\ncontig=c\npos=10\nend=.\nref=A\nalt=<NON_REF>\ngt=.\ngq=.\ndp=.\nad=.\npl=.\n"))
    gives "refused=1\n")
    ∷ (answer_to_site "10" "12" "A" "G,<NON_REF>" "0,30" gives "refused=7\n")
    ∷ (answer (one ++ with_pl "0" "10" "10" "A" "<NON_REF>" "0,30" ++ bare "0" "010" "10" "A" "<NON_REF>") gives "refused=8\n")
    ∷ []

-- GQ in one reading: the least PL, how often it occurs and the next above it, and these with one more PL
abbrev written_least : LeastPls → List ℕ
written_least t = decimals (t.least_pl ∷ t.count ∷ t.second ∷ [])

abbrev pub one_reading : List Row
one_reading =
    (written_least (least_pls (30 ∷ 0 ∷ 20 ∷ [])) gives "0,1,20")
    ∷ (written_least (least_pls (0 ∷ 0 ∷ 5 ∷ [])) gives "0,2,5")
    ∷ (written_least (with_next_pl (least_pls []) 7) gives "7,1,0")
    ∷ (written_least (with_next_pl (least_pls (0 ∷ [])) 7) gives "0,1,7")
    ∷ (written_least (with_next_pl (least_pls (30 ∷ 20 ∷ [])) 20) gives "20,2,30")
    ∷ (written_least (with_next_pl (least_pls (20 ∷ 20 ∷ 30 ∷ [])) 10) gives "10,1,20")
    ∷ (written_least (with_next_pl (least_pls (20 ∷ 40 ∷ [])) 30) gives "20,1,30")
    ∷ (decimal (gq_from_least_pls (least_pls [])) gives "0")
    ∷ (decimal (gq_from_least_pls (least_pls (7 ∷ []))) gives "0")
    ∷ (decimal (gq_from_least_pls (least_pls (0 ∷ 0 ∷ 5 ∷ []))) gives "0")
    ∷ (decimal (gq_from_least_pls (least_pls (0 ∷ 150 ∷ 200 ∷ []))) gives "99")
    ∷ []

-- a row's test: what is found is what is wanted
abbrev pub right : Row → Bool
right r = same_bytes r.found (text r.wanted)

pub checked_by_hand_right : T (all_of right checked_by_hand)
unfolding evaluated
checked_by_hand_right = tt

pub refusals_right : T (all_of right refusals)
unfolding evaluated
refusals_right = tt

pub slips_right : T (all_of right slips)
unfolding evaluated
slips_right = tt

pub one_reading_right : T (all_of right one_reading)
unfolding evaluated
one_reading_right = tt

-- ---- looks

-- three sites, and of the intervals from 10, 13, 15, 20 and 22 the last three lie in the clip; a contig that no site names has none
abbrev looks_on : String → List ℕ
looks_on asked =
    looks_program (some (two ++ block "10" "12" "A" ++ block "20" "22" "A" ++ bare "1" "22" "22" "A" "<NON_REF>"))
    (some (text "contig=c\nstart=15\nend=22\n")) none (some (text asked))

abbrev pub looks : List Row
looks = (looks_on "contig=c\n" gives "looks=9\n") ∷ (looks_on "contig=d\n" gives "looks=0\n") ∷ (looks_on "contig=c\nstart=1\n" gives "refused=1\n") ∷ []

pub looks_right : T (all_of right looks)
unfolding evaluated
looks_right = tt

-- ---- the printed list

abbrev pub example_cohort : List ℕ
example_cohort =
    text "samples=2\nsample=S0\nsample=S1\n"
    ++ text "site=0\ncontig=c\nstart=10\nend=11\nref=A\nalt=<NON_REF>\ngq=30\ndp=9\nmindp=.\nad=9,0\npl=0,30,300\n"
    ++ text "site=1\ncontig=c\nstart=10\nend=10\nref=A\nalt=G,<NON_REF>\ngq=40\ndp=8\nmindp=.\nad=4,4,0\npl=40,0,50,60,70,80\n"

abbrev pub example_list : List ℕ
example_list =
    text "samples=2\nsample=S0\nsample=S1\nrecords=2\n"
    ++ text "contig=c\npos=10\nend=.\nref=A\nalt=G,<NON_REF>\n"
    ++ text "gt=0/0\ngq=30\ndp=9\nmindp=.\nad=9,0,0\npl=0,30,300,30,300,300\n"
    ++ text "gt=0/1\ngq=40\ndp=8\nmindp=.\nad=4,4,0\npl=40,0,50,60,70,80\n"
    ++ text "contig=c\npos=11\nend=.\nref=N\nalt=<NON_REF>\n"
    ++ text "gt=0/0\ngq=30\ndp=9\nmindp=.\nad=9,0\npl=0,30,300\n"
    ++ text "gt=.\ngq=.\ndp=.\nmindp=.\nad=.\npl=.\n"

pub printed : combine_program (some example_cohort) none none ≡ example_list
unfolding evaluated
printed = refl

-- the printed list, read back, has the names and records that it was printed from
pub read_back : written_list example_list ≡ (records_of example_cohort >>= λ rs. accepted (record { names = text "S0" ∷ text "S1" ∷ []; records = rs }))
unfolding evaluated
read_back = refl

-- its called list
pub called : call_program (some example_list)
    ≡ text "samples=2\nsample=S0\nsample=S1\nrecords=1\ncontig=c\npos=10\nref=A\nalt=G\n"
    ++ text "gq=30\ndp=9\nad=9,0\npl=0,30,300\n"
    ++ text "gq=40\ndp=8\nad=4,4\npl=40,0,50\n"
unfolding evaluated
called = refl

-- ---- places looked up in the printed list

-- a pair on contig c
abbrev asked : String → List ℕ
asked pos = line "contig" (text "c") ++ line "pos" (text pos)

-- what the program prints, for the printed list with this behind it
abbrev looked_up : List ℕ → List ℕ → List ℕ
looked_up behind pairs = look_up_program (some (example_list ++ behind)) (some pairs)

abbrev pub looked_up_rows : List Row
looked_up_rows =
    (looked_up [] (asked "9" ++ asked "10" ++ asked "10") gives "record=.\nrecord=0\nrecord=0\ngroups=1\n")
    ∷ (looked_up [] (asked "10" ++ asked "11") gives "record=0\nrecord=1\ngroups=2\n")
    ∷ (looked_up [] (asked "11" ++ text "contig=d\npos=1\n") gives "record=1\nrecord=.\ngroups=2\n")
    ∷ (looked_up [] [] gives "groups=0\n")
    ∷ (looked_up [] (asked "11" ++ asked "10") gives "refused=18\n")
    ∷ (looked_up [] (asked "011" ++ asked "10") gives "refused=1\n")
    ∷ (looked_up (text "x") (asked "11") gives "record=1\ngroups=2\n")
    ∷ (looked_up (text "x") (asked "12") gives "refused=1\n")
    ∷ (look_up_program none none gives "refused=1\n")
    ∷ []

pub looked_up_rows_right : T (all_of right looked_up_rows)
unfolding evaluated
looked_up_rows_right = tt

-- ---- the selection sheet of the called list

-- a marker at position 10 of contig c
abbrev marker : String → String → String → String → List ℕ
marker name allele weight after =
    line "marker" (text name) ++ line "contig" (text "c") ++ line "pos" (text "10")
    ++ line "allele" (text allele) ++ line "weight" (text weight) ++ line "after" (text after)

abbrev sheet_of : List ℕ → List ℕ
sheet_of markers = printed_answer (selection_sheet markers (call_program (some example_list)) 65536)

abbrev pub sheet_rows : List Row
sheet_rows =
    (sheet_of (marker "m1" "G" "5" "." ++ marker "m2" "A" "3" "." ++ marker "m3" "a" "7" "m2,m1") gives "sample=S0\nsum=3\nsample=S1\nsum=15\n")
    ∷ (sheet_of (marker "m1" "*" "5" "." ++ marker "m2" "A" "3" "m1") gives "sample=S0\nsum=0\nsample=S1\nsum=0\n")
    ∷ (sheet_of [] gives "sample=S0\nsum=0\nsample=S1\nsum=0\n")
    ∷ (sheet_of (marker "m1" "G" "101" ".") gives "refused=19\n")
    ∷ (sheet_of (marker "m1" "<NON_REF>" "5" ".") gives "refused=19\n")
    ∷ (sheet_of (marker "m1" "G" "5" "." ++ marker "m1" "G" "5" ".") gives "refused=19\n")
    ∷ (sheet_of (marker "m1" "G" "5" "a,b,c,d,e") gives "refused=19\n")
    ∷ (sheet_of (marker "m1" "G" "5" "m2" ++ marker "m2" "A" "3" ".") gives "refused=20\n")
    ∷ (sheet_of (marker "m1" "G" "5" "m1") gives "refused=20\n")
    ∷ (printed_answer (selection_sheet [] (text "samples=1\nsample=S0\nrecords=1\n") 65536) gives "refused=1\n")
    ∷ (printed_answer (selection_sheet [] (call_program (some example_list)) 31) gives "refused=14\n")
    ∷ []

pub sheet_rows_right : T (all_of right sheet_rows)
unfolding evaluated
sheet_rows_right = tt

-- ---- depth along a contig

-- the windows of a list on contig c, with eight places
abbrev windows : List ℕ → ℕ → ℕ → ℕ → ℕ → List ℕ
windows list sample threshold size step = shown decimal (depth_windows list (text "c") sample threshold size step 8)

-- blocks from 10 to 19 with DP 7, and from 25 to 30 with DP 3
abbrev two_blocks : List ℕ
two_blocks = answer (one ++ site_group "0" "10" "19" "A" "<NON_REF>" "7" "." "." ++ site_group "0" "25" "30" "A" "<NON_REF>" "3" "." ".")

-- a window may run past the last position; a missing DP is below 0; with exactly enough places, and with one fewer
abbrev pub depths : List Row
depths =
    (windows two_blocks 0 3 8 8 gives "8;3;5")
    ∷ (windows two_blocks 0 5 8 8 gives "8;2;0")
    ∷ (windows two_blocks 0 3 3 20 gives "3;1")
    ∷ (windows two_blocks 0 8 3 20 gives "0;0")
    ∷ (windows example_list 1 8 2 1 gives "1;0")
    ∷ (windows example_list 1 0 2 1 gives "1;0")
    ∷ (windows example_list 2 0 2 1 gives "refused=17\n")
    ∷ (windows example_list 0 0 0 1 gives "refused=17\n")
    ∷ (windows example_list 0 0 1 1000001 gives "refused=17\n")
    ∷ (windows two_blocks 0 3 1 3 gives "1;1;1;1;0;1;1")
    ∷ (shown decimal (depth_windows two_blocks (text "c") 0 3 1 3 7) gives "1;1;1;1;0;1;1")
    ∷ (shown decimal (depth_windows two_blocks (text "c") 0 3 1 3 6) gives "refused=14\n")
    ∷ (windows (two_blocks ++ text "x") 1 0 0 0 gives "refused=1\n")
    ∷ (shown decimal (depth_windows two_blocks (text "d") 0 3 8 8 0) gives "")
    ∷ (shown decimal (depth_windows two_blocks (text "d") 1 3 8 8 0) gives "refused=17\n")
    ∷ (depth_program (some two_blocks) (some (text "contig=c\nsample=0\nthreshold=3\nlength=8\nstep=8\n")) gives "window=10,8\nwindow=18,3\nwindow=26,5\n")
    ∷ (depth_program (some two_blocks) (some (text "contig=c\nsample=0\nthreshold=3\nlength=8\n")) gives "refused=1\n")
    ∷ (depth_program none none gives "refused=1\n")
    ∷ []

pub depths_right : T (all_of right depths)
unfolding evaluated
depths_right = tt

-- Records of two orders of one cohort that agree (`SameRecord` of specs/) coalesce alike.
use Prim.Native.Nat.{◌<◌, suc, ℕ}
use lib.Dec.{eqb}
use lib.ListN.{get_elem?, length}
use mathlib.Core.Bool.{Bool, cond, false, true}
use mathlib.Core.List.{List, [], ◌∷◌}
use mathlib.Core.Option.{Option, get_or, none, some}
use mathlib.Core.Path.{◌∙◌, ◌≡◌, ap, ap₂, subst, sym}
use Rattle.definitions.specs.Alleles.{is_block}
use Rattle.definitions.specs.Bytes.{same_bytes}
use Rattle.definitions.specs.Genotypes.{AllelePair}
use Rattle.definitions.specs.Lists.{all_distinct, index_where}
use Rattle.definitions.specs.Records.{Record, coalesce_blocks, coalesce_from, coalesced, coalesces, record_end, same_sample_data}
use Rattle.laws.proofs.Bytes.{index_of, is_same, same_is}
use Rattle.laws.proofs.Every.{Alongside, along, at_same_each, ended, same_each_at}
use Rattle.laws.proofs.Members.{at_below, below_at}
use Rattle.laws.proofs.Tests.{bool_ext, both, both_of}
use Rattle.demands.specs.SameRecords.{SameGt, SameGts, SameRecord, is_alt}

-- the names of one list are names of another
abbrev NamesThere : List (List ℕ) → List (List ℕ) → Type 0
NamesThere names1 names2 =
    (n : List ℕ) (i : ℕ) → index_where (same_bytes n) names1 ≡ some i → (j : ℕ) × (index_where (same_bytes n) names2 ≡ some j)

-- two records that agree, and if they are blocks have the same data for each sample, found by name
pub record Alike (names1 names2 : List (List ℕ)) (r1 r2 : Record) : Type 0 where
  pub same : SameRecord names1 names2 r1 r2
  pub block : is_block r1.alleles ≡ is_block r2.alleles
  pub count1 : length r1.sample_data ≡ length names1
  pub count2 : length r2.sample_data ≡ length names2
  pub values : is_block r1.alleles ≡ true → (n : List ℕ) (i j : ℕ) → index_where (same_bytes n) names1 ≡ some i
      → index_where (same_bytes n) names2 ≡ some j → get_elem? r1.sample_data i ≡ get_elem? r2.sample_data j

gt_back : (g h : Option AllelePair) (ps qs : Option (List ℕ)) → SameGt g ps h qs → SameGt h qs g ps
unfolding SameGt
gt_back none none ps qs same = tt
gt_back none (some h) ps qs same = absurd same
gt_back (some g) none ps qs same = absurd same
gt_back (some g) (some h) ps qs (n, a, b) = (n, b, a)

flip : {names1 names2 : List (List ℕ)} {r1 r2 : Record} → Alike names1 names2 r1 r2 → Alike names2 names1 r2 r1
unfolding SameGts
flip a =
    let s = a.same in
    record {
      same = record {
        contig = sym s.contig;
        pos = sym s.pos;
        end = sym s.end;
        ref = sym s.ref;
        alts = λ x. sym (s.alts x);
        forth = s.back;
        back = s.forth;
        gts = λ n i j e f v w at bt. gt_back _ _ _ _ (s.gts n j i f e w v bt at);
      };
      block = sym a.block;
      count1 = a.count2;
      count2 = a.count1;
      values = λ h n i j e f. sym (a.values (a.block ∙ h) n j i f e);
    }

end_same : {names1 names2 : List (List ℕ)} {r1 r2 : Record} → Alike names1 names2 r1 r2 → record_end r1 ≡ record_end r2
unfolding record_end
end_same a = ap₂ (λ (e : Option ℕ) (p : ℕ). get_or e p) a.same.end a.same.pos

-- what coalesces in the first coalesces in the second
coalesces_forth : (names1 names2 : List (List ℕ)) → all_distinct same_bytes names2 ≡ true → NamesThere names2 names1
    → (r1 r2 s1 s2 : Record) → Alike names1 names2 r1 r2 → Alike names1 names2 s1 s2
    → coalesces r1 s1 ≡ true → coalesces r2 s2 ≡ true
unfolding coalesces
coalesces_forth names1 names2 distinct there r1 r2 s1 s2 a b h =
    let (h4, each) = both_of _ _ h in
    let (h3, ref) = both_of _ _ h4 in
    let (h2, touch) = both_of _ _ h3 in
    let (block-r, block-s) = both_of _ _ h2 in
    both (both (both (both (sym a.block ∙ block-r) (sym b.block ∙ block-s))
    (ap₂ (λ (p q : ℕ). eqb p (suc q)) (sym b.same.pos) (sym (end_same a)) ∙ touch))
    (is_same (sym a.same.ref ∙ same_is _ _ ref ∙ b.same.ref)))
    (at_same_each same_sample_data r2.sample_data s2.sample_data (a.count2 ∙ sym b.count2)
    (λ k v w at bt.
    let below : k < length names2 = subst (λ (m : ℕ). k < m) a.count2 (below_at r2.sample_data k at) in
    let (n, name_at_lem) = at_below names2 k below in
    let f = index_of names2 distinct k name_at_lem in
    let (i, e) = there n k f in
    same_each_at same_sample_data r1.sample_data s1.sample_data each i v w
    (a.values block-r n i k e f ∙ at) (b.values block-s n i k e f ∙ bt)))

module _ (names1 names2 : List (List ℕ)) (distinct1 : all_distinct same_bytes names1 ≡ true)
    (distinct2 : all_distinct same_bytes names2 ≡ true) (forth : NamesThere names1 names2) (back : NamesThere names2 names1) where
  coalesces_same : (r1 r2 s1 s2 : Record) → Alike names1 names2 r1 r2 → Alike names1 names2 s1 s2
      → coalesces r1 s1 ≡ coalesces r2 s2
  coalesces_same r1 r2 s1 s2 a b = bool_ext _ _
      (coalesces_forth names1 names2 distinct2 back r1 r2 s1 s2 a b)
      (coalesces_forth names2 names1 distinct1 forth r2 r1 s2 s1 (flip a) (flip b))

  coalesced_alike : (r1 r2 s1 s2 : Record) → Alike names1 names2 r1 r2 → Alike names1 names2 s1 s2
      → Alike names1 names2 (coalesced r1 s1) (coalesced r2 s2)
  unfolding coalesced is_alt SameGts
  coalesced_alike r1 r2 s1 s2 a b =
      let s = a.same in
      record {
        same = record {
          contig = s.contig;
          pos = s.pos;
          end = ap {B = Option ℕ} some (end_same b);
          ref = s.ref;
          alts = s.alts;
          forth = record { alleles = s.forth.alleles; samples = s.forth.samples };
          back = record { alleles = s.back.alleles; samples = s.back.samples };
          gts = s.gts;
        };
        block = a.block;
        count1 = a.count1;
        count2 = a.count2;
        values = a.values;
      }

  from_alike : (r1 r2 : Record) (l1 l2 : List Record) → Alike names1 names2 r1 r2 → Alongside (Alike names1 names2) l1 l2
      → Alongside (Alike names1 names2) (coalesce_from r1 l1) (coalesce_from r2 l2)
  unfolding coalesce_from
  from_alike r1 r2 [] [] a ended = along a ended
  from_alike r1 r2 [] (s2 ∷ l2) a x4 = elim x4 [ ]
  from_alike r1 r2 (s1 ∷ l1) [] a x4 = elim x4 [ ]
  from_alike r1 r2 (s1 ∷ l1) (s2 ∷ l2) a (along b rest) =
      subst (λ (c : Bool). Alongside (Alike names1 names2)
      (cond (coalesces r1 s1) (coalesce_from (coalesced r1 s1) l1) (r1 ∷ coalesce_from s1 l1))
      (cond c (coalesce_from (coalesced r2 s2) l2) (r2 ∷ coalesce_from s2 l2)))
      (coalesces_same r1 r2 s1 s2 a b)
      (go (coalesces r1 s1) (from_alike (coalesced r1 s1) (coalesced r2 s2) l1 l2 (coalesced_alike r1 r2 s1 s2 a b) rest)
      (from_alike s1 s2 l1 l2 b rest))
    where
      go : (c : Bool) → Alongside (Alike names1 names2) (coalesce_from (coalesced r1 s1) l1) (coalesce_from (coalesced r2 s2) l2)
          → Alongside (Alike names1 names2) (coalesce_from s1 l1) (coalesce_from s2 l2)
          → Alongside (Alike names1 names2)
          (cond c (coalesce_from (coalesced r1 s1) l1) (r1 ∷ coalesce_from s1 l1))
          (cond c (coalesce_from (coalesced r2 s2) l2) (r2 ∷ coalesce_from s2 l2))
      go true one two = one
      go false one two = along a two

  pub coalesce_alike : (l1 l2 : List Record) → Alongside (Alike names1 names2) l1 l2
      → Alongside (Alike names1 names2) (coalesce_blocks l1) (coalesce_blocks l2)
  unfolding coalesce_blocks
  coalesce_alike [] [] ended = ended
  coalesce_alike [] (r2 ∷ l2) x4 = elim x4 [ ]
  coalesce_alike (r1 ∷ l1) [] x4 = elim x4 [ ]
  coalesce_alike (r1 ∷ l1) (r2 ∷ l2) (along a rest) = from_alike r1 r2 l1 l2 a rest

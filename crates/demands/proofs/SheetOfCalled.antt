-- The theorem `SheetOfCalled` of specs/: the called list reads back as the records that were called.
use Prim.Native.Nat.{ℕ}
use lib.ListN.{drop, length, take}
use lib.Seq.{take_at}
use mathlib.Core.Bool.{Bool, ◌&&◌, false, true}
use mathlib.Core.List.{List, [], ◌∷◌}
use mathlib.Core.Logic.{◌⊎◌, inl, inr}
use mathlib.Core.Path.{◌∙◌, ◌≡◌, ap, refl, subst, sym}
use Rattle.answers.specs.Answered.{Answered}
use Rattle.std.specs.Prelude.{Ok}
use Rattle.definitions.specs.Answers.{output_after, written_of}
use Rattle.definitions.specs.CalledList.{called_list, called_records}
use Rattle.definitions.specs.Checked.{Checked, ◌>>=◌, ◌>>◌, accepted, read_each, refused, refused_as, require, within}
use Rattle.definitions.specs.CombinedList.{fits}
use Rattle.definitions.specs.Lines.{Line, lines_of}
use Rattle.definitions.specs.ListReader.{WrittenList}
use Rattle.definitions.specs.Lists.{groups_of}
use Rattle.definitions.specs.SelectionSheet.{Marker, called_read, marker_lines, marker_of, markers_of, printed_sheet, selection_sheet}
use Rattle.laws.proofs.CalledListReadBack.{called_list_read}
use Rattle.laws.proofs.Checked.{accepted_same, after_required, after_then, not_refused, refused_back, within_refused}
use Rattle.demands.specs.SheetOfCalled.{RowOfSheet, SheetOfCalled}

-- ---- what the call wrote

module _ {values : Checked (List ℕ)} {out out' : List ℕ} {n : ℕ} (a : Answered values out out' (Ok n)) where
  values_written : (v : Checked (List ℕ)) → values ≡ v → values ≡ accepted (take n out')
  unfolding output_after written_of
  values_written (refused m) e = not_refused (sym (a.answer ∙ ap written_of e))
  values_written (accepted list) e =
      let output = a.output ∙ ap (λ (v : Checked (List ℕ)). output_after v out) e in
      let long : n ≡ length list = accepted_same (a.answer ∙ ap written_of e) in
      e ∙ ap {B = Checked (List ℕ)} accepted (sym (rw output (take_at list (drop (length list) out) n (sym long))))

-- ---- which rows refuse

required_back : {B : Type 0} (n : ℕ) (t : Bool) (r : Checked B) {row : ℕ} → (require n t >> r) ≡ refused row → (row ≡ n) ⊎ (r ≡ refused row)
unfolding ◌>>=◌ ◌>>◌ require
required_back n true r e = inr e
required_back n false r e = inl cc

as_back : {A : Type 0} (n : ℕ) (c : Checked A) {row : ℕ} → refused_as n c ≡ refused row → row ≡ n
unfolding refused_as
as_back n (refused m) e = cc
as_back n (accepted a) e = not_refused (sym e)

each_refused : {G A P : Type 0} (read : List A → G → Checked A) (before : List A) (gs : List G) {row : ℕ}
    → ((before : List A) (g : G) → read before g ≡ refused row → P) → read_each read before gs ≡ refused row → P
unfolding read_each
each_refused read before [] f e = not_refused (sym e)
each_refused read before (g ∷ gs) f e =
    refused_back _ _ e (f before g) λ a p e. refused_back _ _ e (each_refused read (a ∷ before) gs f) λ rest q e. not_refused (sym e)

marker_refused : (before : List Marker) (group : List Line) {row : ℕ} → marker_of before group ≡ refused row → (row ≡ 19) ⊎ (row ≡ 20)
unfolding marker_of
marker_refused before group e = refused_back _ _ e (λ first. inl (as_back 19 _ first)) λ m p e. go (required_back 20 _ _ e)
  where
    go : {m : Marker} {row : ℕ} → (row ≡ 20) ⊎ (accepted m ≡ refused row) → (row ≡ 19) ⊎ (row ≡ 20)
    go (inl e) = inr e
    go (inr e) = not_refused (sym e)

markers_refused : (markers : List ℕ) {row : ℕ} → markers_of markers ≡ refused row → (row ≡ 19) ⊎ (row ≡ 20)
unfolding markers_of
markers_refused markers e = each_refused marker_of [] (groups_of marker_lines (lines_of markers)) (λ before g h. marker_refused before g h) e

sheet_refused : (t : Bool) (markers : List ℕ) (list : WrittenList) (sheet_length row : ℕ)
    → (require 2 t >> (markers_of markers >>= λ ms. within sheet_length (printed_sheet ms list))) ≡ refused row → RowOfSheet row
sheet_refused t markers list sheet_length row e = go (required_back 2 t _ e)
  where
    by_markers : (row ≡ 19) ⊎ (row ≡ 20) → RowOfSheet row
    by_markers (inl e) = inr (inl e)
    by_markers (inr e) = inr (inr (inl e))

    go : (row ≡ 2) ⊎ ((markers_of markers >>= λ ms. within sheet_length (printed_sheet ms list)) ≡ refused row) → RowOfSheet row
    go (inl e) = inl e
    go (inr e) = refused_back _ _ e (λ m. by_markers (markers_refused markers m)) λ ms p e. inr (inr (inr (within_refused sheet_length _ e)))

-- ---- the theorem

sheet_is : (markers called : List ℕ) (sheet_length : ℕ) (list : WrittenList) → called_read called ≡ accepted list
    → selection_sheet markers called sheet_length ≡ (do
      require 2 (fits markers && fits called)
      ms ← markers_of markers
      within sheet_length (printed_sheet ms list))
unfolding selection_sheet ◌>>=◌
sheet_is markers called sheet_length list back =
    ap (λ (m : Checked WrittenList). do
      require 2 (fits markers && fits called)
      ms ← markers_of markers
      list ← m
      within sheet_length (printed_sheet ms list)) back

pub sheet_of_called : SheetOfCalled
unfolding called_list within
sheet_of_called combined out out' n a =
    after_then _ _ (values_written a _ refl) λ w read e. after_required _ _ _ e λ room e.
    let list : WrittenList = record { names = w.names; records = called_records w.records } in
    let back : called_read (take n out') ≡ accepted list =
    subst (λ (text : List ℕ). called_read text ≡ accepted list) (accepted_same e) (called_list_read combined w read) in (
      w,
      read,
      back,
      λ markers sheet_length. sheet_is markers (take n out') sheet_length list back,
      λ markers sheet_length row e. sheet_refused _ markers list sheet_length row (sym (sheet_is markers (take n out') sheet_length list back) ∙ e),
    )

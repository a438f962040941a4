-- Groups are read until a record reaches a place: what is left for it is what was left before.
use Prim.Native.Nat.{ℕ}
use mathlib.Core.Bool.{cond, false, true}
use mathlib.Core.List.{List, [], ◌∷◌}
use mathlib.Core.Path.{◌∙◌, ◌≡◌, ap, refl, sym}
use Rattle.definitions.specs.Checked.{◌>>=◌, accepted, refused}
use Rattle.definitions.specs.Lines.{Line}
use Rattle.definitions.specs.LookUp.{Place}
use Rattle.definitions.specs.Records.{Record}
use Rattle.list_reader.specs.declared.RecordPlace.{RecordPlace}
use Rattle.list_walk.specs.Walk.{LastStep, RecordStep, RefusedStep, groups_at, record_at}
use Rattle.list_walk.specs.declared.ListCursor.{ListCursor}
use Rattle.list_walk.specs.declared.ListHeader.{ListHeader}
use Rattle.position_lookup.proofs.Holding.{reached_last_lem}
use Rattle.position_lookup.specs.Found.{FirstOf, ReachedAt, StandsAt, reached_last}
use Rattle.position_lookup.specs.Search.{reached_by, read_until}
use Rattle.position_lookup.specs.declared.Search.{Search}

module _ (s : List ℕ) (h : ListHeader) (w₀ : Search) (p : Place) where
  -- from where the search stands the same is left to read for the place
  pub record Reaching (before : List Record) (w : Search) : Type 0 where
    pub read : List Record
    pub value : read_until h.samples h.records p before (groups_at s h w₀.cursor)
        ≡ read_until h.samples h.records p read (groups_at s h w.cursor)
    pub at : StandsAt s read w

  pub reaching_start : (before : List Record) → StandsAt s before w₀ → Reaching before w₀
  reaching_start before at = record { read = before; value = refl; at = at }

  module _ {before : List Record} {w : Search} (g : Reaching before w) where
    reached_is : reached_by p g.read ≡ reached_last s w.cursor.previous p
    reached_is = reached_last_lem s g.read w.cursor.previous p g.at.cursor.previous

    pub reaching_reached : reached_last s w.cursor.previous p ≡ true → ReachedAt s h w₀ p before w
    unfolding read_until
    reaching_reached e = record { read = g.read; value = g.value ∙ go (groups_at s h w.cursor); at = g.at }
      where
        go : (gs : List (List Line)) → read_until h.samples h.records p g.read gs ≡ accepted (record { read = g.read; left = gs })
        go [] = refl
        go (x ∷ gs) = rw (reached_is ∙ e)

    pub reaching_end : {rows₀ rows : List ℕ} → LastStep s h w.cursor rows₀ rows → ReachedAt s h w₀ p before w
    unfolding read_until
    reaching_end l = record { read = g.read; value = g.value ∙ rw l.groups; at = g.at }

    module _ (away : reached_last s w.cursor.previous p ≡ false) where
      pub reaching_refused : {rows₀ rows : List ℕ} {row : ℕ} → RefusedStep s h w.cursor rows₀ rows row
          → read_until h.samples h.records p before (groups_at s h w₀.cursor) ≡ refused row
      unfolding read_until ◌>>=◌
      reaching_refused r = g.value ∙ rw (r.groups, reached_is ∙ away, r.value g.read g.at.cursor)

      pub reaching_next : {rows₀ rows : List ℕ} {place : RecordPlace} {c : ListCursor} → RecordStep s h w.cursor rows₀ rows place c
          → Reaching before (record { cursor = c; first = place.pos })
      unfolding read_until ◌>>=◌ FirstOf
      reaching_next r = record {
        read = record_at r.to ∷ g.read;
        value = g.value ∙ rw (r.groups, reached_is ∙ away, r.value g.read g.at.cursor);
        at = record { cursor = r.behind g.read g.at.cursor; first = refl };
      }

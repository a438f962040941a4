-- `starts_with` tells whether there is something behind the key.
use Prim.Native.Nat.{ℕ}
use lib.ListN.{length, take}
use lib.Dec.{eqb}
use mathlib.Core.Bool.{Bool, ◌&&◌, cond, false, true}
use mathlib.Core.List.{List, [], ◌∷◌}
use mathlib.Core.Option.{none}
use mathlib.Core.Path.{◌∙◌, ◌≡◌, refl}
use Rattle.std.specs.Str.{bytes_eq}
use Rattle.definitions.specs.Bytes.{strip_prefix}
use Rattle.definitions.specs.Lists.{is_there}
use Rattle.kv_text.proofs.has_key.Goals as goal

begins : (key line : List ℕ) → bytes_eq key (take (length key) line) ≡ is_there (strip_prefix key line)
unfolding is_there strip_prefix
begins [] line = refl
begins (k ∷ key) [] = refl
begins (k ∷ key) (b ∷ line) = go (eqb k b) (begins key line)
  where
    go : (t : Bool) → bytes_eq key (take (length key) line) ≡ is_there (strip_prefix key line)
        → (t && bytes_eq key (take (length key) line)) ≡ is_there (cond t (strip_prefix key line) none)
    go true e = e
    go false e = refl

pub returns : goal.returns
returns c = c.starts_with.ensures.value ∙ begins _ _

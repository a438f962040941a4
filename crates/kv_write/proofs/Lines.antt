-- A line of the definitions in the form of the writers' contracts.
use Prim.Native.Nat.{ℕ}
use Prim.Native.String.{String}
use mathlib.Core.List.{List, [], ◌∷◌}
use mathlib.Core.Path.{◌≡◌, refl}
use Rattle.definitions.specs.Bytes.{text}
use Rattle.definitions.specs.Lines.{key_of, line}
use Rattle.kv_write.specs.Keyed.{keyed}

-- That `bytes` are the key with its `=` is `refl` under `unfolding key_of text`.
pub line_keyed : (key : String) (bytes value : List ℕ) → key_of key ≡ bytes → line key value ≡ keyed bytes value
unfolding line
line_keyed key bytes value e = rw e

-- so with b"gq="
example : (value : List ℕ) → line "gq" value ≡ keyed (103 ∷ 113 ∷ 61 ∷ []) value
unfolding key_of text
example value = line_keyed "gq" _ value refl

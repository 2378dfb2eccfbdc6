-- A supply that fails. It stands for who builds on a store. Assumes nothing.
use Rattle.std.proofs.Common.{◌≡◌, Bool, true, false, refl, sym, ◌∙◌}

-- a supply that failed later did not last before
pub not_lasting : (before after : Bool) → (before ≡ true → after ≡ true) → after ≡ false → before ≡ false
not_lasting false after goes_on fails = refl
not_lasting true after goes_on fails = sym (goes_on refl) ∙ fails

-- A word that says nothing. Assumes nothing.
use Rattle.std.proofs.Common.{◌≡◌, Some, None, Ok, Err, IsErrAnd, Option, Result}
use Rattle.std.specs.Option.{ok_or}
use Rattle.languages.specs.Expecting.{or_else}

-- it ends the reading with what was expected of it
pub missed : {T B E : Type 0} (o : Option T) (e : E) (next : T → Result B E) {f : E} {q : Result T E} {r whole : Result B E}
    → q ≡ ok_or o e → q ≡ Err f → IsErrAnd r (λ g. g ≡ f) → or_else o e next ≡ whole → r ≡ whole
missed (Some x) e next d h s all = absurd (cc (d, h))
missed None e next {r = Ok x} d h s all = absurd s
missed None e next {r = Err g} d h s all = cc

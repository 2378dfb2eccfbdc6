-- A held write is known from its block and its bytes. Assumes nothing.
use Rattle.std.proofs.Common.{◌≡◌, ℕ, Bool, true, false, List, [], ◌∷◌, ◌++◌, length, Some, Ok, ◌==◌, ap, ◌∙◌, refl, sym}
use Rattle.std.proofs.lemmas.Bool.{true≢false, eq-eqb}
use Rattle.std.proofs.Math.Nat.{ℕ_set}
use mathlib.Core.HLevel.{Σ_prop_path}
use Rattle.faults.specs.declared.faults.Layer.TheVariants.{Device}
use Rattle.stores.specs.Admission.{powered}
use Rattle.stores.specs.Calls.{writes, response}
use Rattle.stores.specs.Outcomes.{Answer}
use Rattle.benches.specs.declared.held.Held.{Held}
use Rattle.benches.specs.declared.power.Power.{Power}
use Rattle.benches.specs.Held.{held_if, held_of, room_mem, room_held}
use Rattle.benches.specs.Supplies.{goes, spent}
use Rattle.benches.specs.Views.{Contents}
use Rattle.benches.specs.Benches.{admitted, holding, bench_response}

pub same_held : (g h : Held) → g.block ≡ h.block → g.bytes ≡ h.bytes → g ≡ h
same_held g h b e =
    let pairs : ◌≡◌ {A = (xs : List ℕ) × (length xs ≡ 504)} (g.bytes, g.long) (h.bytes, h.long) = Σ_prop_path (λ xs. ℕ_set (length xs) 504) e in
    λ i. record { block = b i; bytes = (pairs i).0; long = (pairs i).1 }

if_long : (h : Held) (t : Bool) (e : (length h.bytes == 504) ≡ t) → t ≡ true → held_if h.block h.bytes t e ≡ Some h
if_long h true e s = ap (λ (g : Held). Some g) (same_held _ h refl refl)
if_long h false e s = absurd (true≢false (sym s))

pub held_of_is : (h : Held) → held_of h.block h.bytes ≡ Some h
held_of_is h = if_long h (length h.bytes == 504) refl (eq-eqb (length h.bytes) 504 h.long)

-- what a bench has once a write is held
pub held_contents : (v : Contents) (h : Held) (mem : List ℕ) (held : List Held) (fuses : List ℕ) (power : Power) → mem ≡ room_mem v.mem v.held → held ≡ room_held v.held ++ h ∷ [] → fuses ≡ v.fuses → power ≡ spent v.power → ◌≡◌ {A = Contents} (record { mem = mem; held = held; fuses = fuses; power = power; left = v.left }) (holding v (held_of h.block h.bytes))
held_contents v h mem held fuses power m k f p =
    let parts : ◌≡◌ {A = Contents} (record { mem = mem; held = held; fuses = fuses; power = power; left = v.left }) (holding v (Some h)) =
    λ i. record { mem = m i; held = k i; fuses = f i; power = p i; left = v.left } in
    parts ∙ ap (holding v) (sym (held_of_is h))

-- and what is said to an admitted write of it
pub held_response : (v : Contents) (h : Held) (r : Answer) (mem : List ℕ) (held : List Held) (fuses : List ℕ) (power : Power) → ◌≡◌ {A = Answer} (Ok tt) (admitted v h.block (length h.bytes)) → r ≡ powered Device (goes v.power) → mem ≡ room_mem v.mem v.held → held ≡ room_held v.held ++ h ∷ [] → fuses ≡ v.fuses → power ≡ spent v.power → response r (record { mem = mem; held = held; fuses = fuses; power = power; left = v.left }) ≡ bench_response v (writes h.block h.bytes)
held_response v h r mem held fuses power a e m k f p =
    let c = held_contents v h mem held fuses power m k f p in
    rw (← a) (λ i. response (e i) (c i))

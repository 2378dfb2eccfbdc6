-- An event record's bytes are its own. Assumes nothing.
use Rattle.std.specs.Prelude.{◌≡◌, ℕ, zero, suc, ◌+◌, ◌^◌, ◌<◌, true, List, None, ◌≢◌, slice_index, slice_index_or, refl}
use Rattle.std.proofs.Common.{arith, sym, ◌∙◌, ap}
use Rattle.std.proofs.lemmas.Bool.{eqb-true}
use Rattle.std.proofs.lemmas.Bool.Decides.{nat_tests}
use Rattle.std.proofs.lemmas.Int.{ints}
use Rattle.records.specs.Bytes.{four_at, Twelve}
use Rattle.records.specs.Events.{Fields, event_fields, fields_bytes, event_bytes, event_wrong, is_party}
use Rattle.records.specs.Fields.{is_second}
use Rattle.records.specs.Happenings.{is_code}
use Rattle.records.specs.declared.events.Event.{Event}
use Rattle.records.specs.declared.events.Event.TheVariants.{LockLost, LockGained, Holdover}
use Rattle.records.specs.FieldLaws.{same_number, second_right, satellite_right, a_second, a_satellite}
use Rattle.records.specs.Twelves.{four_first, four_back, twelve_of, each_right}

-- two events with the same fields are the same
same : (r s : Event) → event_fields r ≡ event_fields s → r ≡ s
same (LockLost a b) (LockLost c d) e = let p = same_number a c (ap (λ x. x.0) e) in let q = same_number b d (ap (λ x. x.2) e) in cc
same (LockLost a b) (LockGained c d) e = absurd (omega (arith, ap (λ x. x.1) e))
same (LockLost a b) (Holdover c) e = absurd (omega (arith, ap (λ x. x.1) e))
same (LockGained a b) (LockLost c d) e = absurd (omega (arith, ap (λ x. x.1) e))
same (LockGained a b) (LockGained c d) e = let p = same_number a c (ap (λ x. x.0) e) in let q = same_number b d (ap (λ x. x.2) e) in cc
same (LockGained a b) (Holdover c) e = absurd (omega (arith, ap (λ x. x.1) e))
same (Holdover a) (LockLost c d) e = absurd (omega (arith, ap (λ x. x.1) e))
same (Holdover a) (LockGained c d) e = absurd (omega (arith, ap (λ x. x.1) e))
same (Holdover a) (Holdover c) e = let p = same_number a c (ap (λ x. x.0) e) in cc

-- an event's fields are in their ranges
in_range : (r : Event) → (is_second (event_fields r).0 ≡ true) × (is_code (event_fields r).1 ≡ true) × (is_party (event_fields r).1 (event_fields r).2 ≡ true)
in_range (LockLost a b) = (second_right a, refl, satellite_right b)
in_range (LockGained a b) = (second_right a, refl, satellite_right b)
in_range (Holdover a) = (second_right a, refl, refl)

fields_small : (x : Fields) → is_second x.0 ≡ true → is_code x.1 ≡ true → is_party x.1 x.2 ≡ true → (x.0 < 2 ^ 32) × (x.1 < 256) × (x.2 < 256)
fields_small x a b c = (grind (arith, nat_tests, ints), grind (arith, nat_tests, ints), grind (arith, nat_tests, ints))

in_bytes : (r : Event) → ((event_fields r).0 < 2 ^ 32) × ((event_fields r).1 < 256) × ((event_fields r).2 < 256)
in_bytes r = let h = in_range r in fields_small (event_fields r) h.0 h.1 h.2

second_back : (r : Event) → four_at (event_bytes r) 0 ≡ (event_fields r).0
second_back r = let h = in_bytes r in four_back (event_fields r).0 h.0

pub own : (r s : Event) → event_bytes r ≡ event_bytes s → r ≡ s
own r s e =
    let a : (event_fields r).0 ≡ (event_fields s).0 = sym (second_back r) ∙ ap (λ bs. four_at bs 0) e ∙ second_back s in
    let b : (event_fields r).1 ≡ (event_fields s).1 = ap (λ bs. slice_index bs 4) e in
    let c : (event_fields r).2 ≡ (event_fields s).2 = ap (λ bs. slice_index bs 5) e in
    same r s (λ i. (a i, b i, c i))

pub right : (r : Event) → event_wrong (event_bytes r) ≡ None
right r = let h = in_range r in rw (second_back r, h.0, h.1, h.2) refl

pub twelve : (r : Event) → Twelve (event_bytes r)
twelve r =
    let h = in_bytes r in
    twelve_of (event_bytes r) refl (grind arith)

-- an event whose fields were read from twelve bytes has those bytes
pub read_back : (bs : List ℕ) → Twelve bs
    → slice_index bs 6 + slice_index bs 7 + slice_index bs 8 + slice_index bs 9 + slice_index bs 10 + slice_index bs 11 ≡ 0 → (r : Event)
    → event_fields r ≡ (four_at bs 0, slice_index bs 4, slice_index bs 5) → event_bytes r ≡ bs
read_back bs t gap r e = let row = four_first bs t in ap fields_bytes e ∙ grind arith

no_code : (w : ℕ) → is_code (suc (suc (suc (suc w)))) ≢ true
no_code w e = grind (arith, nat_tests)

-- fields in their ranges are some event's
of_fields : (s w t : ℕ) → is_second s ≡ true → is_code w ≡ true → is_party w t ≡ true → (r : Event) × (event_fields r ≡ (s, w, t))
of_fields s zero t a b c = cc
of_fields s (suc zero) t a b c =
    let x = a_second s a in let y = a_satellite t c in (LockLost x.0 y.0, λ i. (x.1 i, 1, y.1 i))
of_fields s (suc (suc zero)) t a b c =
    let x = a_second s a in let y = a_satellite t c in (LockGained x.0 y.0, λ i. (x.1 i, 2, y.1 i))
of_fields s (suc (suc (suc zero))) t a b c =
    let x = a_second s a in let y = eqb-true t 0 c in (Holdover x.0, λ i. (x.1 i, 3, (sym y) i))
of_fields s (suc (suc (suc (suc w)))) t a b c = absurd (no_code w b)

pub met : (bs : List ℕ) → Twelve bs → event_wrong bs ≡ None → (r : Event) × (event_bytes r ≡ bs)
met bs t none =
    let h = each_right _ _ _ _ _ _ _ _ none in
    let r = of_fields (four_at bs 0) (slice_index_or bs 4 0) (slice_index_or bs 5 0) h.0 h.1 h.2 in
    (r.0, read_back bs t (eqb-true _ 0 h.3) r.0 r.1)

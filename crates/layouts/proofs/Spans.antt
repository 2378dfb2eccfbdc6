-- Bytes put in one span of a block of equal spans, and what is left of each. Assumes nothing.
use Rattle.std.proofs.Common.{◌≡◌, ◌≢◌, ℕ, ◌+◌, ◌-◌, ◌*◌, ◌≤◌, List, ◌++◌, length, take, drop, sym, ◌∙◌, ap, arith}
use borrow.Rule.Slice.PartMut.{put_mid, Post-is}
use Rattle.stores.proofs.Places.{span_of, length_put, put_here, put_other}

-- the block with these bytes in a span
abbrev pub with_span : ℕ → List ℕ → ℕ → List ℕ → List ℕ
with_span span bs place new = take (span * place) bs ++ (new ++ drop (span * place + span) bs)

-- it is what the borrow checker has after a write to that part
put_is : (span : ℕ) (bs new : List ℕ) (place : ℕ) → put_mid (span * place) span bs new ≡ with_span span bs place new
put_is span bs new place =
    let e : span * place + span - span * place ≡ span = omega arith in
    ap (λ (l : List ℕ). take (span * place) bs ++ (new ++ l)) (rw e at (Post-is (span * place) (span * place + span) bs (omega arith)))

-- the block once these bytes are copied over those from a place on
pub copied_is : (span : ℕ) (bs new : List ℕ) (place at k : ℕ) (copy : List ℕ) → at ≡ span * place → k ≡ span → copy ≡ new → put_mid at k bs copy ≡ with_span span bs place new
copied_is span bs new place at k copy a b c = rw (a, b, c) (put_is span bs new place)

-- it is as long as before, these bytes are read in their span, and every other span as before
pub length_with : (span : ℕ) (bs new : List ℕ) (place : ℕ) → span * place + span ≤ length bs → length new ≡ span → length (with_span span bs place new) ≡ length bs
length_with span bs new place fit long = ap length (sym (put_is span bs new place)) ∙ length_put bs new (span * place) span fit long

pub span_here : (span : ℕ) (bs new : List ℕ) (place : ℕ) → span * place + span ≤ length bs → length new ≡ span → span_of span (with_span span bs place new) place ≡ new
span_here span bs new place fit long =
    ap (λ (l : List ℕ). span_of span l place) (sym (put_is span bs new place)) ∙ put_here bs new (span * place) span span (omega arith) long

pub span_other : (span : ℕ) (bs new : List ℕ) (place other : ℕ) → span * place + span ≤ length bs → length new ≡ span → (other ≢ place)
    → span_of span (with_span span bs place new) other ≡ span_of span bs other
span_other span bs new place other fit long ne =
    ap (λ (l : List ℕ). span_of span l other) (sym (put_is span bs new place)) ∙ put_other span span bs new place other fit (omega arith) long ne

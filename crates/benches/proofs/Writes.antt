-- What held writes bring about. Assumes nothing.
use Rattle.std.specs.Prelude.{◌≡◌, ℕ, zero, suc, ◌+◌, ◌*◌, ◌≤◌, Bool, true, false, cond, ◌⊎◌, List, [], ◌∷◌, ◌++◌, length, map, filter, reverse, Option, None, Some, ◌==◌, ◌≢◌, slice_get, refl}
use Rattle.std.specs.List.{find}
use Rattle.std.specs.Option.{option_or}
use Rattle.std.proofs.Common.{sym, ◌∙◌, ap, subst, inl, inr, ⊎_elim, arith}
use Rattle.std.proofs.lemmas.Bool.{cases_eq}
use Rattle.std.proofs.lemmas.List.{append-nil, map-append, reverse-append}
use Rattle.std.proofs.lemmas.List.Elements.{filter-append}
use Rattle.std.proofs.lemmas.List.Folds.{find-append}
use Rattle.stores.specs.Meanings.{Content, whole, torn}
use Rattle.benches.specs.declared.held.Held.{Held}
use Rattle.benches.specs.Held.{content, settled, settled_all, writes_of, latest, Among, Inside}
use Rattle.benches.proofs.Contents.{settled_here, settled_other, length_settled}
use Rattle.benches.specs.Lawful.{Of, held_bytes, hit, miss, inside_head, inside_tail}

writes_push : (hs : List Held) (h : Held) (b : ℕ) → writes_of (hs ++ h ∷ []) b ≡ writes_of hs b ++ writes_of (h ∷ []) b
writes_push hs h b =
    ap (λ (xs : List Held). map held_bytes xs) (filter-append (Of b) hs (h ∷ []))
    ∙ map-append held_bytes (filter (Of b) hs) (filter (Of b) (h ∷ []))

pub push_hit : (hs : List Held) (h : Held) (b : ℕ) → h.block ≡ b → writes_of (hs ++ h ∷ []) b ≡ writes_of hs b ++ h.bytes ∷ []
push_hit hs h b e = writes_push hs h b ∙ ap (λ (xs : List (List ℕ)). writes_of hs b ++ xs) (hit h [] b e)

pub push_miss : (hs : List Held) (h : Held) (b : ℕ) → (h.block ≢ b) → writes_of (hs ++ h ∷ []) b ≡ writes_of hs b
push_miss hs h b e = writes_push hs h b ∙ ap (λ (xs : List (List ℕ)). writes_of hs b ++ xs) (miss h [] b e) ∙ append-nil (writes_of hs b)

pub latest_push : (c : Content) (ws : List (List ℕ)) (w : List ℕ) → latest c (ws ++ w ∷ []) ≡ whole w
latest_push c [] w = refl
latest_push c (v ∷ ws) w = latest_push (whole v) ws w

pub among_push : (ws : List (List ℕ)) (w : List ℕ) (c : Content) → Among (ws ++ w ∷ []) c → Among ws c ⊎ ((c ≡ whole w) ⊎ (c ≡ torn))
among_push [] w c (inl x) = inr x
among_push [] w c (inr x) = elim x [ ]
among_push (v ∷ ws) w c (inl x) = inl (inl x)
among_push (v ∷ ws) w c (inr x) = ⊎_elim (λ a. inl (inr a)) (λ y. inr y) (among_push ws w c x)

pub among_get : (ws : List (List ℕ)) (k : ℕ) (w : List ℕ) → slice_get ws k ≡ Some w → Among ws (whole w)
among_get [] k w e = cc
among_get (v ∷ ws) zero w e = let s : w ≡ v = cc in inl (inl (ap whole s))
among_get (v ∷ ws) (suc k) w e = inr (among_get ws k w e)

pub among_torn : (ws : List (List ℕ)) → (length ws ≢ 0) → Among ws torn
among_torn [] h = absurd (h refl)
among_torn (w ∷ ws) h = inl (inr refl)

pub inside_none : (len : ℕ) → Inside len []
inside_none len = λ k l. absurd (omega arith)

pub inside_push : (len : ℕ) (hs : List Held) (h : Held) → Inside len hs → 505 * h.block + 505 ≤ len → Inside len (hs ++ h ∷ [])
inside_push len [] h i f zero k = f
inside_push len [] h i f (suc n) k = absurd (omega arith)
inside_push len (x ∷ hs) h i f zero k = i zero (omega arith)
inside_push len (x ∷ hs) h i f (suc n) k = inside_push len hs h (inside_tail len x hs i) f n (omega arith)

inside_settled : (m : List ℕ) (h : Held) (hs : List Held) → Inside (length m) (h ∷ hs) → Inside (length (settled m h.block h.bytes)) hs
inside_settled m h hs i =
    let P : ℕ → Type 0 = λ n. Inside n hs in
    subst P (sym (length_settled m h.bytes h.block (inside_head (length m) h hs i) h.long)) (inside_tail (length m) h hs i)

pub length_settled_all : (m : List ℕ) (hs : List Held) → Inside (length m) hs → length (settled_all m hs) ≡ length m
length_settled_all m [] i = refl
length_settled_all m (h ∷ hs) i =
    length_settled_all (settled m h.block h.bytes) hs (inside_settled m h hs i) ∙ length_settled m h.bytes h.block (inside_head (length m) h hs i) h.long

-- what is read is what stands once all is settled
pub content_settled_all : (m : List ℕ) (hs : List Held) (b : ℕ) → Inside (length m) hs → content (settled_all m hs) b ≡ latest (content m b) (writes_of hs b)
content_settled_all m [] b i = refl
content_settled_all m (h ∷ hs) b i =
    let n = settled m h.block h.bytes in
    content_settled_all n hs b (inside_settled m h hs i)
    ∙ ⊎_elim
    (λ e.
    let here : content n b ≡ whole h.bytes = ap (λ k. content n k) (sym e) ∙ settled_here m h.bytes h.block (inside_head (length m) h hs i) h.long in
    ap (λ c. latest c (writes_of hs b)) here ∙ ap (λ (ws : List (List ℕ)). latest (content m b) ws) (sym (hit h hs b e)))
    (λ ne.
    ap (λ c. latest c (writes_of hs b)) (settled_other m h.bytes h.block b (inside_head (length m) h hs i) h.long (λ e. ne (sym e)))
    ∙ ap (λ (ws : List (List ℕ)). latest (content m b) ws) (sym (miss h hs b ne)))
    (cases_eq h.block b)

-- what the last held write of a block makes of what is settled there
abbrev pub latest_of : Content → Option Held → Content
latest_of c None = c
latest_of c (Some h) = whole h.bytes

either : (c : Content) (h : Held) (o : Option Held) → latest_of (whole h.bytes) o ≡ latest_of c (option_or o (Some h))
either c h None = refl
either c h (Some x) = refl

neither : (c : Content) (o : Option Held) → latest_of c o ≡ latest_of c (option_or o None)
neither c None = refl
neither c (Some x) = refl

find_first : (hs : List Held) (h : Held) (b : ℕ) → find (Of b) (reverse (h ∷ hs)) ≡ option_or (find (Of b) (reverse hs)) (cond (h.block == b) (Some h) None)
find_first hs h b = ap (find (Of b)) (reverse-append (h ∷ []) hs) ∙ find-append (Of b) (reverse hs) (h ∷ [])

found_by : (t : Bool) (c : Content) (h : Held) (hs : List Held) (b : ℕ) → ((d : Content) → latest d (writes_of hs b) ≡ latest_of d (find (Of b) (reverse hs))) → latest c (map held_bytes (cond t (h ∷ filter (Of b) hs) (filter (Of b) hs))) ≡ latest_of c (option_or (find (Of b) (reverse hs)) (cond t (Some h) None))
found_by true c h hs b more = more (whole h.bytes) ∙ either c h (find (Of b) (reverse hs))
found_by false c h hs b more = more c ∙ neither c (find (Of b) (reverse hs))

-- a block reads the last held write of it, or else what is settled
pub latest_found : (c : Content) (hs : List Held) (b : ℕ) → latest c (writes_of hs b) ≡ latest_of c (find (λ (h : Held). h.block == b) (reverse hs))
latest_found c [] b = refl
latest_found c (h ∷ hs) b = found_by (h.block == b) c h hs b (λ d. latest_found d hs b) ∙ ap (latest_of c) (sym (find_first hs h b))

-- What always holds of a bench's meaning. Assumes nothing.
use Rattle.std.specs.Prelude.{◌≡◌, ◌≢◌, ℕ, zero, suc, ◌+◌, ◌*◌, ◌≤◌, Bool, true, false, cond, ◌⊎◌, ◌==◌, List, [], ◌∷◌, length, take, drop, map, filter, slice_index, refl}
use Rattle.std.proofs.Common.{sym, ◌∙◌, ap, subst, inl, inr, ⊎_elim, arith}
use Rattle.std.proofs.lemmas.Bool.{cases_eq, cond-true, cond-false, eq-eqb, ne_eqb}
use Rattle.std.proofs.lemmas.List.{length-take, length-drop}
use Rattle.stores.specs.Meanings.{Content, whole, torn, Lawful}
use Rattle.benches.specs.declared.held.Held.{Held}
use Rattle.benches.specs.declared.power.Power.{Power}
use Rattle.benches.specs.Held.{content, writes_of, latest, Among, Inside, bench_meaning}

-- whether a held write is of block b
abbrev pub Of : ℕ → Held → Bool
Of b h = h.block == b

-- what a held write brings
abbrev pub held_bytes : Held → List ℕ
held_bytes h = h.bytes

-- a write of block b counts among the writes of b, and stands first where it is first
pub hit : (h : Held) (hs : List Held) (b : ℕ) → h.block ≡ b → writes_of (h ∷ hs) b ≡ h.bytes ∷ writes_of hs b
hit h hs b e = ap (λ (xs : List Held). map held_bytes xs) (cond-true (h.block == b) (h ∷ filter (Of b) hs) (filter (Of b) hs) (eq-eqb h.block b e))

-- a write of another block does not
pub miss : (h : Held) (hs : List Held) (b : ℕ) → (h.block ≢ b) → writes_of (h ∷ hs) b ≡ writes_of hs b
miss h hs b e = ap (λ (xs : List Held). map held_bytes xs) (cond-false (h.block == b) (h ∷ filter (Of b) hs) (filter (Of b) hs) (ne_eqb h.block b e))

-- the last write, or else what is settled, is one of what may stand
pub latest_stands : (c : Content) (ws : List (List ℕ)) → (latest c ws ≡ c) ⊎ Among ws (latest c ws)
latest_stands c [] = inl refl
latest_stands c (w ∷ ws) = inr (⊎_elim (λ e. inl (inl e)) (λ a. inr a) (latest_stands (whole w) ws))

-- the first of the held writes is of a block in the memory
pub inside_head : (len : ℕ) (h : Held) (hs : List Held) → Inside len (h ∷ hs) → 505 * h.block + 505 ≤ len
inside_head len h hs i = i zero (omega arith)

-- and so is each after it
pub inside_tail : (len : ℕ) (h : Held) (hs : List Held) → Inside len (h ∷ hs) → Inside len hs
inside_tail len h hs i = λ k l. i (suc k) (omega arith)

-- a write that may stand, whole, has 504 bytes
pub among_length : (hs : List Held) (b : ℕ) (bs : List ℕ) → Among (writes_of hs b) (whole bs) → length bs ≡ 504
among_length [] b bs a = absurd a
among_length (h ∷ hs) b bs a =
    let P : List (List ℕ) → Type 0 = λ ws. Among ws (whole bs) in
    ⊎_elim
    (λ e.
    ⊎_elim
    (λ x. ⊎_elim (λ y. let s : bs ≡ h.bytes = cc in ap length s ∙ h.long) (λ y. cc) x)
    (λ x. among_length hs b bs x)
    (subst P (hit h hs b e) a))
    (λ ne. among_length hs b bs (subst P (miss h hs b ne) a))
    (cases_eq h.block b)

-- bytes that are shown whole, or torn, are as many as they are
seen_length : (n : ℕ) (x bs : List ℕ) (t : Bool) → length x ≡ n → whole bs ≡ cond t (whole x) torn → length bs ≡ n
seen_length n x bs true l e = let s : bs ≡ x = cc in ap length s ∙ l
seen_length n x bs false l e = cc

-- what is settled at a block in the memory is torn or 504 bytes
pub content_length : (m bs : List ℕ) (b : ℕ) → 505 * b + 505 ≤ length m → whole bs ≡ content m b → length bs ≡ 504
content_length m bs b f e =
    let x = take 504 (drop (505 * b) m) in
    let l : length x ≡ 504 = simp (length-take, length-drop) (omega arith) in
    seen_length 504 x bs (slice_index m (505 * b + 504) == 0) l e

-- what stands or is read at a block has 504 bytes, if it is whole
pub bench_lawful : (power : Power) (mem : List ℕ) (held : List Held) → Lawful 504 65536 (bench_meaning power mem held)
bench_lawful power mem held =
    record {
      limited = omega arith;
      some = λ b h. (_, inl refl);
      stand_long = λ b bs h st.
          ⊎_elim
          (λ e. content_length mem bs b (omega arith) e)
          (λ a. among_length held b bs a)
          st;
      read_long = λ b bs h e.
          let P : Content → Type 0 = λ x. Among (writes_of held b) x in
          ⊎_elim
          (λ q. content_length mem bs b (omega arith) (sym e ∙ q))
          (λ a. among_length held b bs (subst P e a))
          (latest_stands (content mem b) (writes_of held b));
    }

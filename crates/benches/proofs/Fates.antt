-- What a restart leaves at each block. Assumes nothing.
use Rattle.std.proofs.Common.{◌≡◌, ℕ, zero, suc, ◌+◌, ◌*◌, ◌%◌, ◌≤◌, eqb, ◌⊎◌, List, [], length, get_or, Option, None, Some, slice_get, sym, refl, ◌∙◌, subst, inl, inr, ⊎_elim, arith}
use Rattle.std.proofs.lemmas.Bool.{cases_eq, cond_both, eqb-false}
use Rattle.stores.specs.Meanings.{Content, whole}
use Rattle.benches.specs.declared.held.Held.{Held}
use Rattle.benches.specs.Held.{blocks_in, content, writes_of, Among, Inside}
use Rattle.benches.specs.Passes.{Pass, settled_or_tore, kept, choice, decided, passed}
use Rattle.benches.proofs.Contents.{settled_here, settled_other, length_settled, tore_here, tore_other, length_tore}
use Rattle.benches.specs.Lawful.{among_length}
use Rattle.benches.proofs.Writes.{among_get, among_torn}

abbrev pub Stands : List ℕ → List Held → ℕ → Content → Type 0
Stands mem hs b c = (c ≡ content mem b) ⊎ Among (writes_of hs b) c

-- one block was decided
pub record Decided (mem after : List ℕ) (a : ℕ) (ws : List (List ℕ)) : Type 0 where
  pub here : (content after a ≡ content mem a) ⊎ Among ws (content after a)
  pub others : (b : ℕ) → (b ≡ a → ⊥) → content after b ≡ content mem b
  pub long : length after ≡ length mem

decided_none : (mem : List ℕ) (a : ℕ) (ws : List (List ℕ)) → Decided mem mem a ws
decided_none mem a ws = record { here = inl refl; others = λ b ne. refl; long = refl }

decided_put : (mem : List ℕ) (a i : ℕ) (ws : List (List ℕ)) (o : Option (List ℕ)) → slice_get ws i ≡ o → 505 * a + 505 ≤ length mem → (length ws ≡ 0 → ⊥) → ((bs : List ℕ) → Among ws (whole bs) → length bs ≡ 504) → Decided mem (settled_or_tore mem a o) a ws
decided_put mem a i ws (Some w) e f some long =
    let among = among_get ws i w e in
    let l = long w among in
    let Q : Content → Type 0 = λ c. Among ws c in
    record {
      here = inr (subst Q (sym (settled_here mem w a f l)) among);
      others = λ b ne. settled_other mem w a b f l ne;
      long = length_settled mem w a f l;
    }
decided_put mem a i ws None e f some long =
    let Q : Content → Type 0 = λ c. Among ws c in
    record {
      here = inr (subst Q (sym (tore_here mem a f)) (among_torn ws some));
      others = λ b ne. tore_other mem a b ne;
      long = length_tore mem a;
    }

decided_kept : (mem : List ℕ) (a : ℕ) (k : Option ℕ) (ws : List (List ℕ)) → 505 * a + 505 ≤ length mem → (length ws ≡ 0 → ⊥) → ((bs : List ℕ) → Among ws (whole bs) → length bs ≡ 504) → Decided mem (kept mem a ws k) a ws
decided_kept mem a None ws f some long = decided_none mem a ws
decided_kept mem a (Some i) ws f some long = decided_put mem a i ws (slice_get ws i) refl f some long

decided_pass : (p : Pass) (a : ℕ) (ws : List (List ℕ)) → 505 * a + 505 ≤ length p.mem → ((bs : List ℕ) → Among ws (whole bs) → length bs ≡ 504) → Decided p.mem (decided a ws p).mem a ws
decided_pass p a ws f long =
    let P : Option ℕ → Type 0 = λ k. Decided p.mem (kept p.mem a ws k) a ws in
    cond_both (eqb (length ws) 0) None (choice (get_or p.left 0 0 % (length ws + 2))) P
    (λ z. decided_none p.mem a ws)
    (λ z. decided_kept p.mem a (choice (get_or p.left 0 0 % (length ws + 2))) ws f (eqb-false (length ws) 0 z) long)

-- the blocks below n were decided
pub record Fated (mem after : List ℕ) (hs : List Held) (n : ℕ) : Type 0 where
  pub standing : (b : ℕ) → Stands mem hs b (content after b)
  pub ahead : (b : ℕ) → n ≤ b → content after b ≡ content mem b
  pub long : length after ≡ length mem

fated_more : (mem old new : List ℕ) (hs : List Held) (n : ℕ) → Fated mem old hs n → Decided old new n (writes_of hs n) → Fated mem new hs (suc n)
fated_more mem old new hs n was now =
    record {
      standing = λ b.
          ⊎_elim
          (λ e.
          let P : ℕ → Type 0 = λ i. Stands mem hs i (content new i) in
          subst P (sym e) (⊎_elim (λ s. inl (s ∙ was.ahead n (omega arith))) (λ a. inr a) now.here))
          (λ ne.
          let P : Content → Type 0 = λ c. Stands mem hs b c in
          subst P (sym (now.others b ne)) (was.standing b))
          (cases_eq b n);
      ahead = λ b h. now.others b (λ e. omega arith) ∙ was.ahead b (omega arith);
      long = now.long ∙ was.long;
    }

fated : (hs : List Held) (p : Pass) (n k : ℕ) → Inside (length p.mem) hs → 505 * n ≤ length p.mem → k ≤ n → Fated p.mem (passed hs p k).mem hs k
fated hs p n zero i f h = record { standing = λ b. inl refl; ahead = λ b l. refl; long = refl }
fated hs p n (suc k) i f h =
    let was = fated hs p n k i f (omega arith) in
    fated_more p.mem (passed hs p k).mem (passed hs p (suc k)).mem hs k was
    (decided_pass (passed hs p k) k (writes_of hs k) (omega (arith, was.long)) (λ bs a. among_length hs k bs a))

-- a restart decides each block
pub restarted : (hs : List Held) (p q : Pass) → Inside (length p.mem) hs → q ≡ passed hs p (blocks_in (length p.mem)) → Fated p.mem q.mem hs (blocks_in (length p.mem))
restarted hs p q i e =
    let n = blocks_in (length p.mem) in
    let F : Pass → Type 0 = λ r. Fated p.mem r.mem hs n in
    subst F (sym e) (fated hs p n n i (omega arith) (omega arith))

-- where nothing is held, a pass changes nothing
pub passed_none : (p : Pass) (n : ℕ) → passed [] p n ≡ p
passed_none p zero = refl
passed_none p (suc b) = passed_none p b

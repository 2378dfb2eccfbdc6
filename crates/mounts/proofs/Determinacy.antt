-- A mount of a store that says one thing at most to each call is answered in one way, and leaves one thing. Assumes nothing.
use Rattle.std.proofs.Common.{◌≡◌, ℕ, List, [], ◌∷◌, map, length, All, Ok, Err, Option, Result, sym, ◌∙◌, refl, ap, subst, ⊎_elim}
use Rattle.std.proofs.lemmas.Bool.{true≢false}
use Rattle.std.proofs.lemmas.List.Elements.{All-head, All-tail}
use Rattle.std.specs.Result.{MatchResult}
use Rattle.faults.specs.declared.faults.Fault.{Fault}
use Rattle.faults.specs.declared.faults.Layer.{Layer}
use Rattle.stores.specs.Calls.{Call, Response, reads, Onward, InOrder, Determined}
use Rattle.stores.specs.Meanings.{Meaning}
use Rattle.stores.specs.Outcomes.{Answer}
use Rattle.stores.proofs.Determinacy.{Blind, onward_one}
use Rattle.layouts.specs.Heads.{Fields}
use Rattle.cards.specs.Memories.{Memory, Remembers}
use Rattle.cards.specs.Verdicts.{mount_of}
use Rattle.cards.proofs.Determinacy.{remembers_one}
use Rattle.samples.specs.Memories.{Arrays}
use Rattle.mounts.specs.Reads.{reading, OfBlockLength, FaultOf, ReadsFor}
use Rattle.mounts.specs.Mounts.{CardFound, MountOutcome, CardCalls, MountCalls}

-- the same fault, where both are refused
abbrev OneFault : {X : Type 0} → Result X Fault → Result X Fault → Type 0
OneFault q p = (e f : Fault) → q ≡ Err e → p ≡ Err f → e ≡ f

fault_one : {A : Type 0} (e f : Fault) → ◌≡◌ {A = Result A Fault} (Err e) (Err f) → e ≡ f
fault_one e f h = cc

value_one : {A : Type 0} (x y : A) → ◌≡◌ {A = Result A Fault} (Ok x) (Ok y) → x ≡ y
value_one x y h = cc

first_one : (b c : ℕ) (bs cs : List ℕ) → b ∷ bs ≡ c ∷ cs → (b ≡ c) × (bs ≡ cs)
first_one b c bs cs h = (cc, cc)

-- one fault at most: that of the reads, or else the check's
fault_of : {A X : Type 0} (check : Result A Fault) (last : Answer) (q p : Result X Fault) → MatchResult last (λ done. FaultOf check q) (λ e. q ≡ Err e)
    → MatchResult last (λ done. FaultOf check p) (λ e. p ≡ Err e) → OneFault q p
fault_of {A} {X} check (Ok done) (Err q) (Err p) h k e f a b = sym (fault_one {A = X} q e a) ∙ fault_one {A = A} q p (sym h ∙ k) ∙ fault_one {A = X} p f b
fault_of {A} {X} check (Ok done) (Ok q) p h k e f a b = absurd (cc a)
fault_of {A} {X} check (Ok done) (Err q) (Ok p) h k e f a b = absurd (cc b)
fault_of {A} {X} check (Err g) q p h k e f a b = fault_one {A = X} e f (sym a ∙ h ∙ sym k ∙ b)

module _ {S : Type 0} (does : S → Call → Response S → Type 0) (blind : Blind does) where
  -- reads of these blocks, into buffers of a block's length
  reads_one : (s : S) (cs ds : List (ℕ × List ℕ)) (r n : Answer) (t v : S) → map (λ (x : ℕ × List ℕ). x.0) cs ≡ map (λ (x : ℕ × List ℕ). x.0) ds → All OfBlockLength cs → All OfBlockLength ds
      → InOrder does s (map reading cs) r t → InOrder does s (map reading ds) n v → (r ≡ n) × (t ≡ v)
  unfolding InOrder
  reads_one s [] [] r n t v e f g h k = (h.0 ∙ sym k.0, h.1 ∙ sym k.1)
  reads_one s [] (d ∷ ds) r n t v e f g h k = absurd (cc e)
  reads_one s (c ∷ cs) [] r n t v e f g h k = absurd (cc e)
  reads_one s (c ∷ cs) (d ∷ ds) r n t v e f g (w, hw, h) (x, hx, k) =
      let these = first_one c.0 d.0 _ _ e in
      let long : length c.1 ≡ length d.1 = All-head OfBlockLength c cs f ∙ sym (All-head OfBlockLength d ds g) in
      let same = blind s c.0 c.1 d.1 w x long hw (subst (λ (b : ℕ). does s (reads b d.1) x) (sym these.0) hx) in
      let onward : Onward w.answer w.next (λ _. InOrder does w.next (map reading ds) n v) n v = rw (same.0, same.1) k in
      onward_one w.answer w.next (λ _. InOrder does w.next (map reading cs) r t) (λ _. InOrder does w.next (map reading ds) n v) r n t v h onward
      (λ done a b. reads_one w.next cs ds r n t v these.1 (All-tail OfBlockLength c cs f) (All-tail OfBlockLength d ds g) a b)

  -- the blocks that are read for one check leave one thing, and are refused for one fault at most
  reads_for_one : {A X : Type 0} (s : S) (blocks : List ℕ) (check : Result A Fault) (q p : Result X Fault) (t u : S) → ReadsFor does s blocks check q t → ReadsFor does s blocks check p u
      → (t ≡ u) × OneFault q p
  reads_for_one s blocks check q p t u a b =
      let one = reads_one s a.calls b.calls a.last b.last t u (a.these ∙ sym b.these) a.fit b.fit a.made b.made in
      (one.1, fault_of check a.last q p a.fault (rw one.0 b.fault))

module _ {S : Type 0} (own : Layer) (code : ℕ) (wrong : List ℕ → Option ℕ) (does : S → Call → Response S → Type 0) (meaning : S → Meaning) (determined : Determined does) (blind : Blind does) where
  after_restart : (a : Answer) (s : S) (q p : Result Memory Fault) (t u : S)
      → MatchResult a (λ done. CardCalls own code wrong does meaning s q t) (λ e. (q ≡ Err e) × (t ≡ s))
      → MatchResult a (λ done. CardCalls own code wrong does meaning s p u) (λ e. (p ≡ Err e) × (u ≡ s)) → (t ≡ u) × OneFault q p
  after_restart (Ok done) s q p t u a b = reads_for_one does blind s _ (mount_of own (meaning s).size code wrong (meaning s).reads) q p t u a b
  after_restart (Err g) s q p t u a b = (a.1 ∙ sym b.1, λ e f h k. fault_one {A = Memory} e f (sym h ∙ a.0 ∙ sym b.0 ∙ k))

  ends_one : (s : S) (q p : Result Memory Fault) (t u : S) → MountCalls own code wrong does meaning s q t → MountCalls own code wrong does meaning s p u → (t ≡ u) × OneFault q p
  ends_one s q p t u (w, hw, a) (v, hv, b) = let same = determined s _ w v hw hv in after_restart w.answer w.next q p t u a (rw same b)

  module _ (source : Layer) (m n : Meaning) where
    -- a card is not both remembered and refused
    not_both : (h : Fields) (e : Fault) → CardFound own code wrong m n (Ok h) → MountOutcome own source code wrong m n (Err e) → ⊥
    not_both h e found refused = ⊎_elim (λ r. cc (sym found.1 ∙ r.1)) (λ f. true≢false (sym found.0.on ∙ f.left.off)) refused

    answer_one : (q p : Result Memory Fault) → MountOutcome own source code wrong m n q → MountOutcome own source code wrong m n p
        → ((t : Memory) → q ≡ Ok t → Arrays t) → ((t : Memory) → p ≡ Ok t → Arrays t) → OneFault q p → q ≡ p
    answer_one (Ok t) (Ok u) a b x y faults =
        let head : t.head ≡ u.head = value_one t.head u.head (sym a.0.1 ∙ b.0.1) in
        let arrays = x t refl in
        let others = y u refl in
        ap (λ (z : Memory). Ok z) (remembers_one u.head n.reads t u arrays.rows others.rows arrays.flags others.flags (subst (λ (h : Fields). Remembers h n.reads t) head a.1) b.1)
    answer_one (Ok t) (Err e) a b x y faults = absurd (not_both t.head e a.0 b)
    answer_one (Err e) (Ok t) a b x y faults = absurd (not_both t.head e b.0 a)
    answer_one (Err e) (Err f) a b x y faults = ap (λ (z : Fault). Err z) (faults e f refl refl)

  -- THE CALLS OF A MOUNT are answered in one way, and leave one thing
  pub mount_one : (source : Layer) (s : S) (q p : Result Memory Fault) (t u : S) → MountCalls own code wrong does meaning s q t → MountCalls own code wrong does meaning s p u
      → MountOutcome own source code wrong (meaning s) (meaning t) q → MountOutcome own source code wrong (meaning s) (meaning u) p
      → ((z : Memory) → q ≡ Ok z → Arrays z) → ((z : Memory) → p ≡ Ok z → Arrays z) → (q ≡ p) × (t ≡ u)
  mount_one source s q p t u a b c d x y =
      let ends = ends_one s q p t u a b in
      (answer_one source (meaning s) (meaning u) q p (rw ends.0 at c) d x y ends.1, ends.0)

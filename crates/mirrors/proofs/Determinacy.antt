-- A mirror over a store that says one thing at most to each call does so too, and to reads of one block whatever their
-- buffers held. Assumes nothing.
use Rattle.std.proofs.Common.{◌≡◌, ℕ, zero, suc, ◌+◌, List, [], ◌∷◌, length, Some, None, Ok, Err, refl, sym, ◌∙◌, ap}
use Rattle.faults.specs.declared.faults.Layer.TheVariants.{Mirror as MirrorLayer}
use Rattle.stores.specs.Admission.{admission, powered}
use Rattle.stores.specs.Outcomes.{Answer}
use Rattle.stores.specs.Calls.{Call, Response, reads, writes, flushes, restarts, InOrder, Determined}
use Rattle.stores.specs.Meanings.{Meaning}
use Rattle.stores.proofs.Determinacy.{Blind, onward_one, in_order_one}
use Rattle.mirrors.specs.Mirrors.{half}
use Rattle.mirrors.specs.Views.{View}
use Rattle.mirrors.specs.Below.{Copy, copy_of, mending, Probes, UnlessTorn, storing_both, ReadsCopies, Repairs, Mends, Restarts, passed_up, read_up, OnceAdmitted, MirrorDoes, mirror_does}

module _ {S : Type 0} (does : S → Call → Response S → Type 0) (d : Determined does) where
  probes_one : (b : ℕ) (s : S) (q p : Copy) (t v : S) → Probes does b s q t → Probes does b s p v → (q ≡ p) × (t ≡ v)
  unfolding Probes
  probes_one b s q p t v (w, hw, e, f) (x, hx, g, k) =
      let same = d s _ w x hw hx in
      (e ∙ ap (λ (y : Response S). copy_of y.answer y.buffer) same ∙ sym g, f ∙ ap (λ (y : Response S). y.next) same ∙ sym k)

  unless_torn_one : (b : ℕ) (o : Copy) (s : S) (q p : Copy) (t v : S) → UnlessTorn does b o s q t → UnlessTorn does b o s p v → (q ≡ p) × (t ≡ v)
  unless_torn_one b (Ok None) s q p t v h k = probes_one b s q p t v h k
  unless_torn_one b (Ok (Some bytes)) s q p t v h k = (h.0 ∙ sym k.0, h.1 ∙ sym k.1)
  unless_torn_one b (Err e) s q p t v h k = (h.0 ∙ sym k.0, h.1 ∙ sym k.1)

  reads_one : (a b : ℕ) (s : S) (q p : Copy) (t v : S) → ReadsCopies does a b s q t → ReadsCopies does a b s p v → (q ≡ p) × (t ≡ v)
  unfolding ReadsCopies
  reads_one a b s q p t v (o, u, h, more) (n, x, k, last) =
      let same = probes_one a s o n u x h k in
      unless_torn_one b o u q p t v more (rw (← same.0, ← same.1) at last)

  repairs_one : (a b : ℕ) (s : S) (r n : Answer) (t v : S) → Repairs does a b s r t → Repairs does a b s n v → (r ≡ n) × (t ≡ v)
  unfolding Repairs
  repairs_one a b s r n t v (o, u, h, more) (m, x, k, last) =
      let same = probes_one a s o m u x h k in
      onward_one o u _ _ r n t v more (rw (← same.0, ← same.1) at last)
      (λ one g l.
      let again = probes_one b u g.0 l.0 g.1 l.1 g.2 l.2 in
      onward_one g.0 g.1 _ _ r n t v g.3 (rw (← again.0, ← again.1) at l.3) (λ two i j. in_order_one does d g.1 (mending a b one two) r n t v i j))

  mends_one : (h n : ℕ) (s : S) (r m : Answer) (t v : S) → Mends does h n s r t → Mends does h n s m v → (r ≡ m) × (t ≡ v)
  unfolding Mends
  mends_one h zero s r m t v i j = (i.0 ∙ sym j.0, i.1 ∙ sym j.1)
  mends_one h (suc b) s r m t v (q, u, i, more) (p, x, j, last) =
      let same = mends_one h b s q p u x i j in
      onward_one q u _ _ r m t v more (rw (← same.0, ← same.1) at last) (λ done k l. repairs_one b (h + b) u r m t v k l)

  restarts_one : (h : ℕ) (s : S) (r n : Answer) (t v : S) → Restarts does h s r t → Restarts does h s n v → (r ≡ n) × (t ≡ v)
  unfolding Restarts
  restarts_one h s r n t v (w, hw, more) (x, hx, last) =
      let same = d s restarts w x hw hx in
      onward_one w.answer w.next _ _ r n t v more (rw (← same) at last) (λ done k l. mends_one h h w.next r n t v k l)

  past_one : (a : Answer) (buffer : List ℕ) (s : View S) (w x : Response (View S)) (A B : Type 0) → OnceAdmitted a buffer s w A → OnceAdmitted a buffer s x B → (A → B → w ≡ x) → w ≡ x
  past_one (Ok done) buffer s w x A B h k f = f h k
  past_one (Err e) buffer s w x A B h k f = h ∙ sym k

  answered_one : (r n : Answer) (t v : S) (w x : Response (View S)) → (r ≡ n) × (t ≡ v) → w ≡ passed_up r t → x ≡ passed_up n v → w ≡ x
  answered_one r n t v w x same e f = e ∙ (λ i. passed_up (same.0 i) (same.1 i)) ∙ sym f

  -- what is said to an admitted read, and to an admitted call that makes these calls below
  abbrev Reading : ℕ → ℕ → List ℕ → View S → Response (View S) → Type 0
  Reading h b before s w = (q : Copy) × (t : S) × ReadsCopies does b (h + b) s.below q t × (w ≡ read_up b before q t)

  abbrev Calling : List Call → View S → Response (View S) → Type 0
  Calling cs s w = (r : Answer) × (t : S) × InOrder does s.below cs r t × (w ≡ passed_up r t)

  reading_one : (h b : ℕ) (before : List ℕ) (s : View S) (w x : Response (View S)) → Reading h b before s w → Reading h b before s x → w ≡ x
  reading_one h b before s w x k l =
      let same = reads_one b (h + b) s.below k.0 l.0 k.1 l.1 k.2 l.2 in
      k.3 ∙ (λ i. read_up b before (same.0 i) (same.1 i)) ∙ sym l.3

  calling_one : (cs : List Call) (s : View S) (w x : Response (View S)) → Calling cs s w → Calling cs s x → w ≡ x
  calling_one cs s w x k l = answered_one k.0 l.0 k.1 l.1 w x (in_order_one does d s.below cs k.0 l.0 k.1 l.1 k.2 l.2) k.3 l.3

  says_one : (h : ℕ) → Determined (MirrorDoes does h)
  says_one h s (reads b before) w x i j =
      past_one (admission MirrorLayer h s.on b (length before)) before s w x (Reading h b before s w) (Reading h b before s x) i j (reading_one h b before s w x)
  says_one h s (writes b bytes) w x i j =
      let cs = storing_both b (h + b) bytes in
      past_one (admission MirrorLayer h s.on b (length bytes)) [] s w x (Calling cs s w) (Calling cs s x) i j (calling_one cs s w x)
  says_one h s flushes w x i j =
      past_one (powered MirrorLayer s.on) [] s w x (Calling (flushes ∷ []) s w) (Calling (flushes ∷ []) s x) i j (calling_one (flushes ∷ []) s w x)
  says_one h s restarts w x i j = answered_one i.0 j.0 i.1 j.1 w x (restarts_one h s.below i.0 j.0 i.1 j.1 i.2 j.2) i.3 j.3

  pub mirror_determined : (meaning : S → Meaning) → Determined (mirror_does meaning does)
  mirror_determined meaning s c w x i j = says_one (half (meaning s.below)) s c w x i j

  -- two reads are answered the same, and leave the same
  abbrev ReadAlike : Response (View S) → Response (View S) → Type 0
  ReadAlike w x = (w.answer ≡ x.answer) × (w.next ≡ x.next)

  read_up_blind : (b : ℕ) (p q : List ℕ) (c : Copy) (t : S) → ReadAlike (read_up b p c t) (read_up b q c t)
  read_up_blind b p q (Ok (Some bytes)) t = (refl, refl)
  read_up_blind b p q (Ok None) t = (refl, refl)
  read_up_blind b p q (Err e) t = (refl, refl)

  reading_blind : (h b : ℕ) (p q : List ℕ) (s : View S) (w x : Response (View S)) → Reading h b p s w → Reading h b q s x → ReadAlike w x
  reading_blind h b p q s w x k l =
      let same = reads_one b (h + b) s.below k.0 l.0 k.1 l.1 k.2 l.2 in
      rw (k.3, l.3, same.0, same.1) (read_up_blind b p q l.0 l.1)

  past_blind : (a : Answer) (p q : List ℕ) (s : View S) (w x : Response (View S)) (A B : Type 0) → OnceAdmitted a p s w A → OnceAdmitted a q s x B → (A → B → ReadAlike w x) → ReadAlike w x
  past_blind (Ok done) p q s w x A B h k f = f h k
  past_blind (Err e) p q s w x A B h k f = rw (h, k) (refl, refl)

  pub mirror_blind : (meaning : S → Meaning) → Blind (mirror_does meaning does)
  mirror_blind meaning s b p q w x e i j =
      let h = half (meaning s.below) in
      past_blind (admission MirrorLayer h s.on b (length q)) p q s w x (Reading h b p s w) (Reading h b q s x) (rw e at i) j (reading_blind h b p q s w x)

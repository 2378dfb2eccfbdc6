-- The touched sample blocks are rewritten one by one: each row is old or the sample's. Assumes nothing.
use Rattle.std.proofs.Common.{◌≡◌, ℕ, zero, suc, ◌+◌, ◌/◌, ◌%◌, ◌<◌, ◌≤◌, Bool, true, false, cond, is_some, ◌⊎◌, inl, inr, List, [], ◌∷◌, ◌++◌, length, Some, None, Option, refl, ap, ◌∙◌, subst, ⊎_elim, arith}
use Rattle.std.specs.Option.{unwrap_or}
use Rattle.std.proofs.lemmas.Bool.{cases_lt}
use Rattle.std.proofs.lemmas.List.{append_assoc}
use Rattle.faults.specs.declared.faults.Layer.{Layer}
use Rattle.stores.specs.Calls.{Call, Response, writes}
use Rattle.stores.specs.Meanings.{Meaning}
use Rattle.stores.specs.Outcomes.{Answer}
use Rattle.layouts.specs.Shapes.{sample_blocks}
use Rattle.layouts.specs.Slots.{slot_at}
use Rattle.cards.specs.Memories.{Memory}
use Rattle.workings.specs.Commits.{all_committed}
use Rattle.workings.specs.Refreshes.{of_block, joined, touched, row_writes}
use Rattle.recovery.proofs.Frames.{Frame, frame}
use Rattle.recovery.proofs.Opens.{Open}
use Rattle.recovery.proofs.Standings.{Fit, Counting}
use Rattle.recovery.proofs.Tellings.{newest_in, sampled}
use Rattle.recovery.proofs.Cards.{Either}
use Rattle.recovery.proofs.Fitting.{fit_rows}
use Rattle.recovery.proofs.Joined.{rows_long, row_here, untouched}
use Rattle.recovery.proofs.Steps.{Reached, Broken, reached_wider, write_step}

writes_none : (t : Memory) → row_writes t 0 ≡ []
unfolding row_writes
writes_none t = refl

writes_more : (t : Memory) (b : ℕ) → row_writes t (suc b) ≡ row_writes t b ++ cond (touched t b) (writes (1 + b) (joined (of_block t.rows b)) ∷ []) []
unfolding row_writes
writes_more t b = refl

-- each row is the new one below sample block b, and the old one from there on
abbrev pub Mixed : ℕ → (ℕ → List ℕ) → (ℕ → List ℕ) → ℕ → List ℕ → Type 0
Mixed b old new s x = (s / 42 < b → x ≡ new s) × (b ≤ s / 42 → x ≡ old s)

-- a slot without an entry has its record in its row
none_told : (o : Option (List ℕ)) (x y : List ℕ) → is_some o ≡ false → unwrap_or o x ≡ y → x ≡ y
none_told None x y n e = e
none_told (Some z) x y n e = absurd cc

module _ {State : Type 0} (does : State → Call → Response State → Type 0) (meaning : State → Meaning) (own source : Layer) where
  module _ (t : Memory) {base : ℕ} {m : Meaning} {rs : List (List ℕ)} (o : Open base m (all_committed t) rs (length rs)) where
    abbrev f : Frame
    f = frame base t

    abbrev c : ℕ
    c = t.head.entries

    abbrev new : ℕ → List ℕ
    new = sampled f rs

    -- the whole log under its head, over rows each old or the sample's, or as far rewritten
    abbrev pub Stands : ℕ → List ℕ → Type 0
    Stands = Fit f (Counting f (length rs) c) (Either o.rows new) o.log c

    abbrev pub Rewritten : ℕ → ℕ → List ℕ → Type 0
    Rewritten b = Fit f (Counting f (length rs) c) (Mixed b o.rows new) o.log c

    -- a rewritten block has the sample's rows
    block_rows : (b : ℕ) → b < sample_blocks f.size → (s : ℕ) → s < f.size → s / 42 ≡ b → slot_at (joined (of_block t.rows b)) (s % 42) ≡ new s
    block_rows b l s below e =
        let most = o.limits.most in
        let long = o.shape.rows in
        row_here t.rows o.shape.row b (omega arith) s (new s) e (o.held s (omega arith))

    -- an untouched block has them already
    rows_there : (b s : ℕ) → touched t b ≡ false → s < f.size → s / 42 ≡ b → o.rows s ≡ new s
    rows_there b s clear below e =
        let most = o.limits.most in
        none_told (newest_in f o.log s c) (o.rows s) (new s) (untouched t.logged b s _ clear e (o.flagged s (omega arith))) (o.rest.counts.all.slots s below)

    block_step : {cs : List Call} {r : Answer} {u : State} (b : ℕ) (x : Bool) → touched t b ≡ x → b < sample_blocks f.size
        → Reached does meaning own source f m Stands (Rewritten b) (cond x (writes (1 + b) (joined (of_block t.rows b)) ∷ []) [] ++ cs) r u
        → Reached does meaning own source f m Stands (Rewritten (suc b)) cs r u ⊎ Broken does meaning own source f m Stands r u
    block_step b true e l h =
        let most = o.limits.most in
        let long = o.shape.rows in
        write_step does meaning own source f m {P = Stands} {Q = Rewritten b} {R = Rewritten (suc b)} (1 + b) (joined (of_block t.rows b)) h (omega arith)
        (rows_long t.rows o.shape.row b (omega arith))
        (fit_rows l (λ s k z. inr (block_rows b l s k z)))
        (λ a x ne fit. record {
          head = fit.head;
          row = λ s k z.
              let y = fit.row s k z in
              ((λ g. y.0 (⊎_elim (λ (v : s / 42 < b). v) (λ (v : b ≤ s / 42). absurd (ne (omega arith))) (cases_lt (s / 42) b))), (λ g. y.1 (omega arith)));
          entry = fit.entry;
        })
        (fit_rows l (λ s k z. ((λ g. block_rows b l s k z), (λ g. absurd (omega arith)))))
    block_step b false e l h =
        inl (reached_wider does meaning own source f m (λ a x fit. fit) (λ a x fit. record {
          head = fit.head;
          row = λ s k z.
              let y = fit.row s k z in
              ((λ g. ⊎_elim (λ (v : s / 42 < b). y.0 v) (λ (v : b ≤ s / 42). y.1 v ∙ rows_there b s e k (omega arith)) (cases_lt (s / 42) b)), (λ g. y.1 (omega arith)));
          entry = fit.entry;
        }) h)

    -- the first b sample blocks
    pub rows_steps : {r : Answer} {u : State} (cs : List Call) (b : ℕ) → b ≤ sample_blocks f.size → Reached does meaning own source f m Stands (Rewritten 0) (row_writes t b ++ cs) r u
        → Reached does meaning own source f m Stands (Rewritten b) cs r u ⊎ Broken does meaning own source f m Stands r u
    rows_steps {r} {u} cs zero l h =
        inl (subst (λ (ds : List Call). Reached does meaning own source f m Stands (Rewritten 0) ds r u) (ap (λ (ds : List Call). ds ++ cs) (writes_none t)) h)
    rows_steps {r} {u} cs (suc b) l h =
        let here : List Call = cond (touched t b) (writes (1 + b) (joined (of_block t.rows b)) ∷ []) [] in
        let apart = ap (λ (ds : List Call). ds ++ cs) (writes_more t b) ∙ append_assoc (row_writes t b) here cs in
        elim (rows_steps (here ++ cs) b (omega arith) (subst (λ (ds : List Call). Reached does meaning own source f m Stands (Rewritten 0) ds r u) apart h)) [
          | inl a ↦ block_step b (touched t b) refl (omega arith) a
          | inr x ↦ inr x
        ]

-- The law of a run: each call of it keeps the ledger, and a run goes on by one call more. Assumes nothing.
use Rattle.std.proofs.Common.{◌≡◌, ℕ, List, [], ◌∷◌, ◌++◌, Ok, sym, refl, subst}
use Rattle.layouts.specs.Heads.{Fields}
use Rattle.samples.specs.Memories.{new_head}
use Rattle.samplers.specs.Views.{View}
use Rattle.ledgers.specs.Ledgers.{opened}
use Rattle.ledgers.specs.declared.calls.Call.{Call}
use Rattle.ledgers.specs.declared.calls.Call.TheVariants.{Mount, Wake, Insert, Commit, Refresh, Slot, Close}
use Rattle.ledgers.specs.declared.calls.Answer.{Answer}
use Rattle.ledgers.specs.declared.calls.Answer.TheVariants.{OutOfTurn}
use Rattle.laws.specs.Setups.{Setup}
use Rattle.laws.specs.Stages.{view, Went}
use Rattle.laws.specs.declared.stages.Stage.{Stage}
use Rattle.laws.specs.declared.stages.Stage.TheVariants.{Sleeping, Waking}
use Rattle.laws.specs.Pasts.{Past, just_formatted}
use Rattle.laws.specs.Laws.{LawfulCall, onward, LawfulRun, FormatWent, Law}
use Rattle.laws.proofs.Given.{Given, LawfulSetup}
use Rattle.laws.proofs.Standing.{given}
use Rattle.laws.proofs.Kept.{Kept, Keeps, holds_sample}
use Rattle.laws.proofs.Settling.{commit_keeps, refresh_keeps}
use Rattle.laws.proofs.Inserting.{insert_keeps}
use Rattle.laws.proofs.Mounting.{mount_keeps}
use Rattle.laws.proofs.Slots.{slot_keeps}
use Rattle.laws.proofs.Turns.{wake_keeps, close_keeps, turn_keeps}
use Rattle.laws.proofs.Formatting.{format_kept}

module _ {S State K : Type 0} (x : Setup S State K) (h : Fields) where
  -- an answer and a stage by another name
  at : (p : Past K) (t : Stage S K) (c : Call K) (a b : Answer K) (u v : Stage S K) → a ≡ b → u ≡ v → Keeps x h p t c b v → Keeps x h p t c a u
  at p t c a b u v e f k =
      subst (λ (y : Answer K). Keeps x h p t c y u) (sym e) (subst (λ (y : Stage S K). Keeps x h p t c b y) (sym f) k)

  out_of_turn : (p : Past K) (t : Stage S K) (c : Call K) (a : Answer K) (u : Stage S K) → Went x t c OutOfTurn t → Kept x h p (view t) → a ≡ OutOfTurn → u ≡ t → Keeps x h p t c a u
  out_of_turn p t c a u w kept e f = at p t c a OutOfTurn u t e f (turn_keeps x h p t c w kept)

  -- EVERY CALL IS LAWFUL, and keeps the ledger
  pub call_keeps : Given x → LawfulSetup x → h.kind ≡ x.code → (p : Past K) (t : Stage S K) (c : Call K) (a : Answer K) (u : Stage S K) → Kept x h p (view t) → Went x t c a u
      → Keeps x h p t c a u
  call_keeps g law kind p (Sleeping v) Mount a u k (r, w, e, f, y) = at p (Sleeping v) Mount a _ u _ e f (mount_keeps x h g law p v w r kind k y)
  call_keeps g law kind p (Sleeping v) Wake a u k (e, f) = at p (Sleeping v) Wake a _ u _ e f (wake_keeps x h p v k)
  call_keeps g law kind p (Sleeping v) (Insert n) a u k (e, f) = out_of_turn p (Sleeping v) (Insert n) a u (refl, refl) k e f
  call_keeps g law kind p (Sleeping v) Commit a u k (e, f) = out_of_turn p (Sleeping v) Commit a u (refl, refl) k e f
  call_keeps g law kind p (Sleeping v) Refresh a u k (e, f) = out_of_turn p (Sleeping v) Refresh a u (refl, refl) k e f
  call_keeps g law kind p (Sleeping v) (Slot i) a u k (e, f) = out_of_turn p (Sleeping v) (Slot i) a u (refl, refl) k e f
  call_keeps g law kind p (Sleeping v) Close a u k (e, f) = out_of_turn p (Sleeping v) Close a u (refl, refl) k e f
  call_keeps g law kind p (Waking v) Mount a u k (e, f) = out_of_turn p (Waking v) Mount a u (refl, refl) k e f
  call_keeps g law kind p (Waking v) Wake a u k (e, f) = out_of_turn p (Waking v) Wake a u (refl, refl) k e f
  call_keeps g law kind p (Waking v) (Insert n) a u k (r, w, e, f, y) = at p (Waking v) (Insert n) a _ u _ e f (insert_keeps x h g law p n v w r k y)
  call_keeps g law kind p (Waking v) Commit a u k (r, w, e, f, y) = at p (Waking v) Commit a _ u _ e f (commit_keeps x h g p v w r k y)
  call_keeps g law kind p (Waking v) Refresh a u k (r, w, e, f, y) = at p (Waking v) Refresh a _ u _ e f (refresh_keeps x h g p v w r k y)
  call_keeps g law kind p (Waking v) (Slot i) a u k (r, w, e, f, y) = at p (Waking v) (Slot i) a _ u _ e f (slot_keeps x h g law p i v w r k y.0 y.1)
  call_keeps g law kind p (Waking v) Close a u k (e, f) = at p (Waking v) Close a _ u _ e f (close_keeps x h p v k)

  -- a lawful run, with what is known of the sampler after it and what holds then
  unfoldable pub Running : Past K → Stage S K → List (Call K) → List (Answer K) → Stage S K → Type 0
  Running p t [] [] u = (u ≡ t) × Kept x h p (view u)
  Running p t (c ∷ calls) (a ∷ answers) u = (v : Stage S K) × LawfulCall x h p t c a v × Running (onward x p t c a) v calls answers u
  Running p t calls answers u = ⊥

  pub run_of : (p : Past K) (t : Stage S K) (calls : List (Call K)) (answers : List (Answer K)) (u : Stage S K) → Running p t calls answers u → LawfulRun x h p t calls answers u
  unfolding Running LawfulRun
  run_of p t [] [] u r = r.0
  run_of p t (c ∷ calls) (a ∷ answers) u r = (r.0, r.1, run_of (onward x p t c a) r.0 calls answers u r.2)
  run_of p t [] (a ∷ answers) u r = r
  run_of p t (c ∷ calls) [] u r = r

  pub running_none : (p : Past K) (t : Stage S K) → Kept x h p (view t) → Running p t [] [] t
  unfolding Running
  running_none p t k = (refl, k)

  one_more : Given x → LawfulSetup x → h.kind ≡ x.code → (p : Past K) (t u : Stage S K) (c : Call K) (a : Answer K) (v : Stage S K) → u ≡ t → Kept x h p (view u) → Went x u c a v
      → Running p t (c ∷ []) (a ∷ []) v
  unfolding Running
  one_more g law kind p t u c a v e k w =
      let y = call_keeps g law kind p u c a v k w in
      subst (λ (s : Stage S K). Running p s (c ∷ []) (a ∷ []) v) e (v, y.0, (refl, y.1))

  -- ONE CALL MORE
  pub running_more : Given x → LawfulSetup x → h.kind ≡ x.code → (p : Past K) (t : Stage S K) (calls : List (Call K)) (answers : List (Answer K)) (u : Stage S K) (c : Call K) (a : Answer K)
      (v : Stage S K) → Running p t calls answers u → Went x u c a v → Running p t (calls ++ c ∷ []) (answers ++ a ∷ []) v
  unfolding Running
  running_more g law kind p t [] [] u c a v r w = one_more g law kind p t u c a v r.0 r.1 w
  running_more g law kind p t (d ∷ calls) (b ∷ answers) u c a v r w =
      (r.0, r.1, running_more g law kind (onward x p t d b) r.0 calls answers u c a v r.2 w)
  running_more g law kind p t [] (b ∷ answers) u c a v r w = absurd r
  running_more g law kind p t (d ∷ calls) [] u c a v r w = absurd r

module _ {S State K : Type 0} (x : Setup S State K) where
  -- calls of the sampler that a format left, worked so far
  abbrev pub LawSoFar : View S → List (Call K) → List (Answer K) → Stage S K → Type 0
  LawSoFar f calls answers t =
      (size log_blocks seed : ℕ) (v : View S) → FormatWent x size log_blocks seed v f (Ok tt)
      → Running x (new_head x.code size log_blocks seed) just_formatted (Sleeping f) calls answers t

  pub law_begins : LawfulSetup x → (f : View S) → LawSoFar f [] [] (Sleeping f)
  law_begins law f size log_blocks seed v went =
      running_none x (new_head x.code size log_blocks seed) just_formatted (Sleeping f) (format_kept x law (given x law) size log_blocks seed v f went)

  pub law_more : LawfulSetup x → (f : View S) (calls : List (Call K)) (answers : List (Answer K)) (u : Stage S K) (c : Call K) (a : Answer K) (v : Stage S K)
      → LawSoFar f calls answers u → Went x u c a v → LawSoFar f (calls ++ c ∷ []) (answers ++ a ∷ []) v
  law_more law f calls answers u c a v so_far w size log_blocks seed b went =
      running_more x (new_head x.code size log_blocks seed) (given x law) law refl just_formatted (Sleeping f) calls answers u c a v (so_far size log_blocks seed b went) w

  -- THE LAW STANDS
  pub law_stands : LawfulSetup x → (f : View S) (calls : List (Call K)) (answers : List (Answer K)) (t : Stage S K) → LawSoFar f calls answers t
      → Law x f calls answers t
  law_stands law f calls answers t so_far size log_blocks seed v went =
      let h = new_head x.code size log_blocks seed in (
        holds_sample x h opened f (format_kept x law (given x law) size log_blocks seed v f went).holds refl,
        run_of x h just_formatted (Sleeping f) calls answers t (so_far size log_blocks seed v went),
      )

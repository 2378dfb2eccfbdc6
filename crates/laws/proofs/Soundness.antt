-- A steady store that was sound is sound after every call of its sampler. Assumes nothing.
use Rattle.std.proofs.Common.{◌≡◌, sym, subst}
use Rattle.stores.specs.Meanings.{Steadily}
use Rattle.workings.specs.Worked.{insert_work, commit_work, refresh_work}
use Rattle.workings.proofs.Soundness.{worked_sound}
use Rattle.samplers.specs.Views.{View}
use Rattle.ledgers.specs.declared.calls.Call.{Call}
use Rattle.ledgers.specs.declared.calls.Call.TheVariants.{Mount, Wake, Insert, Commit, Refresh, Slot, Close}
use Rattle.ledgers.specs.declared.calls.Answer.{Answer}
use Rattle.laws.specs.declared.stages.Stage.{Stage}
use Rattle.laws.specs.declared.stages.Stage.TheVariants.{Sleeping, Waking}
use Rattle.laws.specs.Setups.{Setup, meant}
use Rattle.laws.specs.Stages.{view, Went}

module _ {S State K : Type 0} (x : Setup S State K) where
  abbrev Stays : Stage S K → Stage S K → Type 0
  Stays t u = Steadily x.steady (meant x (view t).store) (meant x (view u).store)

  -- by the view that a call left
  left : (t u v : Stage S K) → u ≡ v → Stays t v → Stays t u
  left t u v e h = subst (λ (w : Stage S K). Stays t w) (sym e) h

  pub went_sound : (t : Stage S K) (c : Call K) (a : Answer K) (u : Stage S K) → Went x t c a u → Stays t u
  went_sound (Sleeping v) Mount a u (r, w, e, f, h) = left (Sleeping v) u (Sleeping w) f h.sound
  went_sound (Sleeping v) Wake a u (e, f) = left (Sleeping v) u _ f (λ y so. so)
  went_sound (Sleeping v) (Insert k) a u (e, f) = left (Sleeping v) u _ f (λ y so. so)
  went_sound (Sleeping v) Commit a u (e, f) = left (Sleeping v) u _ f (λ y so. so)
  went_sound (Sleeping v) Refresh a u (e, f) = left (Sleeping v) u _ f (λ y so. so)
  went_sound (Sleeping v) (Slot i) a u (e, f) = left (Sleeping v) u _ f (λ y so. so)
  went_sound (Sleeping v) Close a u (e, f) = left (Sleeping v) u _ f (λ y so. so)
  went_sound (Waking v) Mount a u (e, f) = left (Waking v) u _ f (λ y so. so)
  went_sound (Waking v) Wake a u (e, f) = left (Waking v) u _ f (λ y so. so)
  went_sound (Waking v) (Insert k) a u (r, w, e, f, h) =
      left (Waking v) u (Waking w) f (worked_sound x.does x.meaning x.own x.source x.steady (insert_work (x.bytes k)) (x.state v.store) (x.state w.store) v.sample w.sample r h)
  went_sound (Waking v) Commit a u (r, w, e, f, h) =
      left (Waking v) u (Waking w) f (worked_sound x.does x.meaning x.own x.source x.steady commit_work (x.state v.store) (x.state w.store) v.sample w.sample r h)
  went_sound (Waking v) Refresh a u (r, w, e, f, h) =
      left (Waking v) u (Waking w) f (worked_sound x.does x.meaning x.own x.source x.steady refresh_work (x.state v.store) (x.state w.store) v.sample w.sample r h)
  went_sound (Waking v) (Slot i) a u (r, w, e, f, h) =
      left (Waking v) u (Waking w) f (subst (λ (z : View S). Steadily x.steady (meant x v.store) (meant x z.store)) (sym h.1) (λ y so. so))
  went_sound (Waking v) Close a u (e, f) = left (Waking v) u _ f (λ y so. so)

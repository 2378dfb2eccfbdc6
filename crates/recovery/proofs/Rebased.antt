-- A sampler whose log is empty is open with all its records for the base. Assumes nothing.
use Rattle.std.proofs.Common.{◌≡◌, ℕ, ◌<◌, ◌≤◌, false, List, length, replicate, Some, Option, is_some, refl, sym, ap, ◌∙◌, arith}
use Rattle.std.specs.List.{slice_get}
use Rattle.std.specs.Option.{unwrap_or}
use Rattle.std.proofs.lemmas.Grind.{common_steps}
use Rattle.std.proofs.lemmas.List.{take_all, length-replicate}
use Rattle.std.proofs.lemmas.Option.{gets}
use Rattle.stores.specs.Meanings.{Meaning}
use Rattle.layouts.specs.declared.entries.Entry.{Entry}
use Rattle.cards.specs.Memories.{Memory}
use Rattle.workings.specs.Refreshes.{refreshed}
use Rattle.recovery.proofs.Frames.{Frame, InLimits, frame}
use Rattle.recovery.proofs.Opens.{Shaped, Open}
use Rattle.recovery.proofs.Standings.{Fit, Counting, Just, Standing}
use Rattle.recovery.proofs.Tellings.{sampled, Tells}
use Rattle.recovery.proofs.TellingLaws.{newest_none}

-- the frame with another base
abbrev pub based : Frame → ℕ → Frame
based f a = record { kind = f.kind; seed = f.seed; size = f.size; log_blocks = f.log_blocks; base = a }

pub sampled_based : (f : Frame) (a : ℕ) (rs : List (List ℕ)) (s : ℕ) → sampled (based f a) rs s ≡ sampled f rs s
unfolding sampled
sampled_based f a rs s = refl

fit_based : {f : Frame} {H : List ℕ → Type 0} {R : ℕ → List ℕ → Type 0} {log : ℕ → Entry} {c b : ℕ} {x : List ℕ} (a : ℕ) → Fit f H R log c b x → Fit (based f a) H R log c b x
fit_based a fit = record { head = fit.head; row = fit.row; entry = fit.entry }

limits_based : {f : Frame} (a : ℕ) → InLimits f → InLimits (based f a)
limits_based a l = record { coded = l.coded; seeded = l.seeded; some = l.some; most = l.most; logged = l.logged; limited = l.limited }

-- rows that tell the sample without a log
tells_based : {f : Frame} {rs : List (List ℕ)} {rows : ℕ → List ℕ} {log : ℕ → Entry} (a : ℕ) → a ≤ length rs → Tells f rs rows log 0 → Tells (based f a) rs rows log 0
tells_based {f} {rs} {rows} {log} a le t = record {
  begun = le;
  logged = λ j l. absurd (omega arith);
  ascend = λ i j l h. absurd (omega arith);
  slots = λ s l.
      ap (λ (o : Option (List ℕ)). unwrap_or o (rows s)) (newest_none (based f a) log s ∙ sym (newest_none f log s))
      ∙ t.slots s l ∙ sym (sampled_based f a rs s);
}

all_false : (n s : ℕ) → s < n → slice_get (replicate n false) s ≡ Some false
all_false n s l = grind (arith, common_steps, gets)

-- the blocks of a sample without a log
abbrev pub Bare : Frame → List (List ℕ) → (ℕ → List ℕ) → (ℕ → Entry) → ℕ → List ℕ → Type 0
Bare f rs rows log = Fit f (Counting f (length rs) 0) (Just rows) log 0

pub open_refreshed : (t : Memory) {base : ℕ} {q : Meaning} {rs : List (List ℕ)} {rows : ℕ → List ℕ} {log : ℕ → Entry} → InLimits (frame base t) → Shaped t → t.head.count ≡ length rs
    → length rs ≤ 4000000000 → ((s : ℕ) → s < 672 → slice_get t.rows s ≡ Some (sampled (frame base t) rs s)) → Tells (frame base t) rs rows log 0
    → Standing (frame base t) q (Bare (frame base t) rs rows log) (Bare (frame base t) rs rows log) → Open (length rs) q (refreshed t) rs (length rs)
open_refreshed t {base} {q} {rs} {rows} {log} limits shape count few held tells standing =
    let f = frame base t in
    let after = tells_based (length rs) (omega arith) tells in
    record {
      rows = rows;
      log = log;
      limits = limits_based (length rs) limits;
      rest = record {
        standing = record {
          on = standing.on;
          room = standing.room;
          stands = λ b x l h. fit_based (length rs) (standing.stands b x l h);
          reads = λ b x l h. fit_based (length rs) (standing.reads b x l h);
        };
        counts = record { fits = omega arith; counted = few; early = omega arith; order = omega arith; settled = rw (take_all (length rs) rs (omega arith)) after; all = after };
      };
      shape = record { rows = shape.rows; row = shape.row; flags = length-replicate 672 false; work = shape.work };
      count = count;
      held = λ s l. held s l ∙ ap {B = Option (List ℕ)} Some (sym (sampled_based f (length rs) rs s));
      flagged = λ s l. all_false 672 s l ∙ ap (λ (o : Option (List ℕ)). Some (is_some o)) (sym (newest_none (based f (length rs)) log s));
      working = λ j l e. absurd (omega arith);
    }

-- What a bench means, and what it says to each call. Assumes nothing.
use Rattle.std.specs.Prelude.{Option, None, Some, ◌≡◌, ℕ, cond, List, [], ◌∷◌, ◌++◌, length, drop, Ok, Err, vec_items, Result}
use Rattle.faults.specs.Refusals.{fault}
use Rattle.faults.specs.declared.faults.Layer.TheVariants.{Device}
use Rattle.faults.specs.declared.faults.Reason.TheVariants.{Torn}
use Rattle.stores.specs.Admission.{admission, powered}
use Rattle.stores.specs.Calls.{Call, Response, reads, writes, flushes, restarts, unless, response}
use Rattle.stores.specs.Meanings.{Content, whole, torn, Meaning}
use Rattle.stores.specs.Outcomes.{Answer}
use Rattle.benches.specs.declared.held.Held.{Held}
use Rattle.benches.specs.declared.power.Power.TheVariants.{Off}
use Rattle.benches.specs.declared.benches.Bench.{Bench}
use Rattle.benches.specs.Views.{View, Contents, allocation_of}
use Rattle.benches.specs.declared.benches.Given.{Given}
use Rattle.benches.specs.Held.{blocks_in, content, writes_of, latest, held_of, bench_meaning, settled_all, room_mem, room_held}
use Rattle.benches.specs.Supplies.{is_on, started, spent, goes}
use Rattle.benches.specs.Passes.{passed}

-- what a bench means
abbrev pub meaning_of : Contents → Meaning
meaning_of v = bench_meaning v.power v.mem v.held

-- whether a block's call is admitted
abbrev pub admitted : Contents → ℕ → ℕ → Answer
admitted v b given = admission Device (blocks_in (length v.mem)) (is_on v.power) b given

-- a block's bytes are read, or it is torn
abbrev pub read_response : Contents → ℕ → List ℕ → Content → Response Contents
read_response v b before (whole bytes) = record { answer = Ok tt; buffer = bytes; next = v }
read_response v b before torn = record { answer = Err (fault Torn Device b); buffer = before; next = v }

-- a write that is held uses up the power, cut or not
abbrev pub holding : Contents → Option Held → Contents
holding v None = v
holding v (Some h) = record { mem = room_mem v.mem v.held; held = room_held v.held ++ h ∷ []; fuses = v.fuses; power = spent v.power; left = v.left }

-- a flush settles all, unless it is cut
abbrev pub flushed : Contents → Contents
flushed v =
    record {
      mem = cond (goes v.power) (settled_all v.mem v.held) v.mem;
      held = cond (goes v.power) [] v.held;
      fuses = v.fuses;
      power = spent v.power;
      left = v.left;
    }

-- a restart decides what stands at each block, and lights the next fuse
abbrev pub awoken : Contents → Contents
awoken v =
    record {
      mem = (passed v.held (record { mem = v.mem; left = v.left }) (blocks_in (length v.mem))).mem;
      held = [];
      fuses = drop 1 v.fuses;
      power = started v.fuses;
      left = (passed v.held (record { mem = v.mem; left = v.left }) (blocks_in (length v.mem))).left;
    }

-- what a bench says to each call; a write or a flush goes through, or is cut
abbrev pub bench_response : Contents → Call → Response Contents
bench_response v (reads b before) = unless (admitted v b (length before)) before v (read_response v b before (latest (content v.mem b) (writes_of v.held b)))
bench_response v (writes b bytes) = unless (admitted v b (length bytes)) [] v (response (powered Device (goes v.power)) (holding v (held_of b bytes)))
bench_response v flushes = response (powered Device (goes v.power)) (flushed v)
bench_response v restarts = response (Ok tt) (awoken v)

-- what a bench does: of each call just what it says
abbrev pub bench_does : Contents → Call → Response Contents → Type 0
bench_does v c r = r ≡ bench_response v c

-- a new bench: the memory as it was given, off, with nothing held
abbrev pub fresh : Given → View
fresh g =
    record {
      mem = vec_items g.bytes;
      allocation = allocation_of g.bytes;
      held = [];
      fuses = vec_items g.fuses;
      power = Off;
      left = vec_items g.choices;
    }

-- a bench of what was given, or that back
abbrev pub Made : Given → Result Bench Given → Type 0
Made g (Ok b) = b ≡ fresh g
Made g (Err back) = back ≡ g

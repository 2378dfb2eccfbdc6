use Rattle.std.proofs.Common.{◌≡◌, ℕ, List, Option, Bor, true, false, Ok, refl, rules, sym, ap, ◌∙◌}
use Rattle.std.specs.Option.{option_copied}
use Rattle.std.specs.Str.{bytes_eq}
use Rattle.stores.specs.Meanings.{Same, whole, torn}
use Rattle.stores.proofs.Sameness.{same_trans}
use Rattle.mirrors.specs.Repairs.{Ready, content_of}
use Rattle.mirrors.proofs.Calls.{repaired}
use Rattle.mirrors.proofs.Steps.{twins_same, second_put, first_put}
use Rattle.stores.specs.Calls.{InOrder}
use Rattle.mirrors.proofs.mirrors.repairs.repair.Goals as goal

pub returns-in-Some-Some-2-clause-outcome : goal.returns-in-Some-Some-2-clause-outcome
returns-in-Some-Some-2-clause-outcome g c =
    let state = g.S.Store.state in
    let m = g.S.Store.meaning (state c.args.below.now) in
    let u = g.S.Store.meaning (state c.probe.new.below) in
    let v = g.S.Store.meaning (state c.probe-2.new.below) in
    let n = g.S.Store.meaning (state c.put.new.below) in
    λ t.
    let p = c.in_ok-probe.ensures.outcome t.first t.on in
    let w = twins_same t p.1 in
    let q = c.in_ok-probe-2.ensures.outcome w.second w.on in
    let same : Same m v = same_trans p.1 q.1 in
    let x = twins_same w q.1 in
    let bs = c.in-Some-Some-2.one.now in
    let first : m.reads c.args.first ≡ whole bs = p.0 ∙ ap (λ (o : Option (Bor (List ℕ))). content_of (option_copied o)) c.in-Some-Some-2.is-0 in
    let ready : Ready v c.args.second bs = record { range = x.second; buffer = search rules; on = x.on } in
    second_put g.S.Store.source m v n c.args.first c.args.second t same bs c.put.result first (c.put.ensures.outcome ready)

pub returns-in-Some-None-clause-outcome : goal.returns-in-Some-None-clause-outcome
returns-in-Some-None-clause-outcome g c =
    let state = g.S.Store.state in
    let m = g.S.Store.meaning (state c.args.below.now) in
    let u = g.S.Store.meaning (state c.probe.new.below) in
    let v = g.S.Store.meaning (state c.probe-2.new.below) in
    let n = g.S.Store.meaning (state c.put-in-Some-None.new.below) in
    λ t.
    let p = c.in_ok-probe.ensures.outcome t.first t.on in
    let w = twins_same t p.1 in
    let q = c.in_ok-probe-2.ensures.outcome w.second w.on in
    let same : Same m v = same_trans p.1 q.1 in
    let x = twins_same w q.1 in
    let bs = c.in-Some-None.one.now in
    let first : m.reads c.args.first ≡ whole bs = p.0 ∙ ap (λ (o : Option (Bor (List ℕ))). content_of (option_copied o)) c.in-Some-None.is-0 in
    let ready : Ready v c.args.second bs = record { range = x.second; buffer = search rules; on = x.on } in
    second_put g.S.Store.source m v n c.args.first c.args.second t same bs c.put-in-Some-None.result first (c.put-in-Some-None.ensures.outcome ready)

pub returns-in-None-Some-clause-outcome : goal.returns-in-None-Some-clause-outcome
returns-in-None-Some-clause-outcome g c =
    let state = g.S.Store.state in
    let m = g.S.Store.meaning (state c.args.below.now) in
    let u = g.S.Store.meaning (state c.probe.new.below) in
    let v = g.S.Store.meaning (state c.probe-2.new.below) in
    let n = g.S.Store.meaning (state c.put-in-None-Some.new.below) in
    λ t.
    let p = c.in_ok-probe.ensures.outcome t.first t.on in
    let w = twins_same t p.1 in
    let q = c.in_ok-probe-2.ensures.outcome w.second w.on in
    let same : Same m v = same_trans p.1 q.1 in
    let x = twins_same w q.1 in
    let bs = c.in-None-Some.two.now in
    let first : m.reads c.args.first ≡ torn = p.0 ∙ ap (λ (o : Option (Bor (List ℕ))). content_of (option_copied o)) c.in-None-Some.is-0 in
    let second : m.reads c.args.second ≡ whole bs = sym (p.1.reads c.args.second t.second) ∙ q.0 ∙ ap (λ (o : Option (Bor (List ℕ))). content_of (option_copied o)) c.in-None-Some.is-1 in
    let ready : Ready v c.args.first bs = record { range = x.first; buffer = search rules; on = x.on } in
    first_put g.S.Store.source m v n c.args.first c.args.second t same bs c.put-in-None-Some.result first second (c.put-in-None-Some.ensures.outcome ready)

pub returns-in-Some-Some-clause-exact : goal.returns-in-Some-Some-clause-exact
unfolding InOrder
returns-in-Some-Some-clause-exact g c =
    let state = g.S.Store.state in
    repaired g.S.Store.does c.args.first c.args.second (state c.args.below.now) (state c.probe.new.below) (state c.probe-2.new.below) (state c.probe-2.new.below)
    (option_copied c.in_ok-probe.field-0) (option_copied c.in_ok-probe-2.field-0) (Ok tt) c.in_ok-probe.ensures.exact c.in_ok-probe-2.ensures.exact
    (let same : bytes_eq c.in-Some-Some.one.now c.in-Some-Some.two.now ≡ true = search rules in rw (c.in-Some-Some.is-0, c.in-Some-Some.is-1, same) (refl, refl))

pub returns-in-Some-Some-2-clause-exact : goal.returns-in-Some-Some-2-clause-exact
returns-in-Some-Some-2-clause-exact g c =
    let state = g.S.Store.state in
    repaired g.S.Store.does c.args.first c.args.second (state c.args.below.now) (state c.probe.new.below) (state c.probe-2.new.below) (state c.put.new.below)
    (option_copied c.in_ok-probe.field-0) (option_copied c.in_ok-probe-2.field-0) c.put.result c.in_ok-probe.ensures.exact c.in_ok-probe-2.ensures.exact
    (let differ : bytes_eq c.in-Some-Some-2.one.now c.in-Some-Some-2.field-0-1.now ≡ false = search rules in rw (c.in-Some-Some-2.is-0, c.in-Some-Some-2.is-1, differ) c.put.ensures.exact)

pub returns-in-Some-None-clause-exact : goal.returns-in-Some-None-clause-exact
returns-in-Some-None-clause-exact g c =
    let state = g.S.Store.state in
    repaired g.S.Store.does c.args.first c.args.second (state c.args.below.now) (state c.probe.new.below) (state c.probe-2.new.below) (state c.put-in-Some-None.new.below)
    (option_copied c.in_ok-probe.field-0) (option_copied c.in_ok-probe-2.field-0) c.put-in-Some-None.result c.in_ok-probe.ensures.exact c.in_ok-probe-2.ensures.exact
    (rw (c.in-Some-None.is-0, c.in-Some-None.is-1) c.put-in-Some-None.ensures.exact)

pub returns-in-None-Some-clause-exact : goal.returns-in-None-Some-clause-exact
returns-in-None-Some-clause-exact g c =
    let state = g.S.Store.state in
    repaired g.S.Store.does c.args.first c.args.second (state c.args.below.now) (state c.probe.new.below) (state c.probe-2.new.below) (state c.put-in-None-Some.new.below)
    (option_copied c.in_ok-probe.field-0) (option_copied c.in_ok-probe-2.field-0) c.put-in-None-Some.result c.in_ok-probe.ensures.exact c.in_ok-probe-2.ensures.exact
    (rw (c.in-None-Some.is-0, c.in-None-Some.is-1) c.put-in-None-Some.ensures.exact)

pub returns-in-None-None-clause-exact : goal.returns-in-None-None-clause-exact
unfolding InOrder
returns-in-None-None-clause-exact g c =
    let state = g.S.Store.state in
    repaired g.S.Store.does c.args.first c.args.second (state c.args.below.now) (state c.probe.new.below) (state c.probe-2.new.below) (state c.probe-2.new.below)
    (option_copied c.in_ok-probe.field-0) (option_copied c.in_ok-probe-2.field-0) (Ok tt) c.in_ok-probe.ensures.exact c.in_ok-probe-2.ensures.exact
    (rw (c.in-None-None.is-0, c.in-None-None.is-1) (refl, refl))

use Rattle.std.proofs.Common.{◌≡◌, ◌<◌, ◌-◌, Some, Ok, get_or, length, vec_items, vec_len, sym, ap, arith, rules}
use Rattle.std.proofs.lemmas.Grind.{common_steps}
use Rattle.languages.proofs.Last.{last_changed}
use Rattle.parsing.specs.Cards.{with_ask}
use Rattle.parsing.proofs.Growing.{said, one_asked}
use Rattle.script.specs.Shown.{ask_shown}
use Rattle.script.specs.declared.expectations.Expected.TheVariants.{FormatFirst}
use Rattle.parsing.proofs.nights.ask_more.Goals as goal

pub returns : goal.returns
returns g c =
    let fields = g.K.FromWords.fields in
    let o : c.last_mut.result ≡ Some c.in_ok-last.last = grind arith in
    let some : 0 < vec_len c.args.nights.now = grind (arith, common_steps) in
    let long : vec_len c.args.nights.now ≡ length (vec_items c.args.nights.now) = search rules in
    let last : c.in_ok-last.last.now ≡ get_or (vec_items c.args.nights.now) (vec_len c.args.nights.now - 1) c.in_ok-last.last.now = grind (arith, common_steps) in
    last_changed (said fields) FormatFirst (λ p. Ok (with_ask (ask_shown fields c.args.asked) p)) c.in_ok-last.last.now _ (vec_items c.args.nights.now) (vec_len c.args.nights.now) (Ok tt) long some (rw (sym last) (ap Ok (one_asked fields c.in_ok-last.last.now c.args.asked c.push.new.self c.in_ok-push.ensures.items)))

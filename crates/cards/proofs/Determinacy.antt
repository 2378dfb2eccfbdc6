-- A card with this head is remembered in one way. Assumes nothing.
use Rattle.std.proofs.Common.{◌≡◌, ℕ, zero, suc, ◌<◌, List, length, Some, refl, sym, ◌∙◌}
use Rattle.std.specs.List.{slice_get}
use Rattle.std.proofs.lemmas.List.{same_lists}
use Rattle.std.proofs.lemmas.Option.{get_or_from_slice_get}
use Rattle.stores.specs.Meanings.{Content, whole}
use Rattle.layouts.specs.Heads.{Fields}
use Rattle.cards.specs.Cards.{Card}
use Rattle.cards.specs.Memories.{Memory, WorkIs, Remembers}

-- two lists of this length that have the same at each place are one
lists_one : {X : Type 0} (n : ℕ) (here : ℕ → X) (xs ys : List X) → length xs ≡ n → length ys ≡ n → ((s : ℕ) → s < n → slice_get xs s ≡ Some (here s))
    → ((s : ℕ) → s < n → slice_get ys s ≡ Some (here s)) → xs ≡ ys
lists_one n here xs ys l k f g =
    same_lists xs ys (l ∙ sym k)
    (λ s d b. let within : s < n = rw l at b in get_or_from_slice_get xs s (here s) d (f s within) ∙ sym (get_or_from_slice_get ys s (here s) d (g s within)))

whole_one : (p q : List ℕ) → ◌≡◌ {A = Content} (whole p) (whole q) → p ≡ q
whole_one p q e = cc

work_one : (h : Fields) (card : Card) (i : ℕ) (p q : List ℕ) → WorkIs h card i p → WorkIs h card i q → p ≡ q
work_one h card zero p q a b = a ∙ sym b
work_one h card (suc i) p q a b = whole_one p q (sym a ∙ b)

memory_one : (t u : Memory) → t.head ≡ u.head → t.committed ≡ u.committed → t.rows ≡ u.rows → t.logged ≡ u.logged → t.work ≡ u.work → t ≡ u
memory_one t u a b c d e =
    let same : ◌≡◌ {A = Memory} (record { head = t.head; committed = t.committed; rows = t.rows; logged = t.logged; work = t.work }) u = rw (a, b, c, d, e) refl in
    same

pub remembers_one : (h : Fields) (card : Card) (t u : Memory) → length t.rows ≡ 672 → length u.rows ≡ 672 → length t.logged ≡ 672 → length u.logged ≡ 672
    → Remembers h card t → Remembers h card u → t ≡ u
remembers_one h card t u rows_t rows_u flags_t flags_u a b =
    memory_one t u
    (a.head_is ∙ sym b.head_is)
    (a.committed_is ∙ sym b.committed_is)
    (lists_one 672 _ t.rows u.rows rows_t rows_u a.row b.row)
    (lists_one 672 _ t.logged u.logged flags_t flags_u a.flag b.flag)
    (work_one h card h.entries t.work u.work a.block b.block)

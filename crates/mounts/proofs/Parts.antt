-- One part of a mount after another. Assumes nothing.
use Rattle.std.proofs.Common.{◌≡◌, Err, Result, refl, sym, ◌∙◌, inl, inr, ⊎_elim}
use Rattle.faults.specs.declared.faults.Fault.{Fault}
use Rattle.faults.specs.declared.faults.Layer.{Layer}
use Rattle.stores.specs.Meanings.{Meaning, Same, Nothing}
use Rattle.stores.specs.Outcomes.{Failed}
use Rattle.stores.proofs.Sameness.{same_trans}
use Rattle.layouts.specs.Heads.{Fields}
use Rattle.cards.specs.Cards.{Card}
use Rattle.mounts.specs.Parts.{Shows, ShowsWithRoom, PartRefused}

pub same_refl : (m : Meaning) → Same m m
same_refl m = record { size = refl; on = refl; reads = λ b h. refl; fewer = λ b c h x. x; more = λ b c h x. x; lasts = refl }

module _ (m k : Meaning) (same : Same m k) where
  -- a part that changed nothing leaves the card there for the next
  pub shows_still : (card : Card) → Shows m card → Shows k card
  shows_still card shows = record { on = same.on ∙ shows.on; reads = λ b h. let l = rw same.size at h in same.reads b l ∙ shows.reads b l }

  pub holds_still : (h : Fields) (card : Card) → ShowsWithRoom m h card → ShowsWithRoom k h card
  holds_still h card holds = record { shows = shows_still card holds.shows; room = rw same.size holds.room }

  failed_later : (source : Layer) (n : Meaning) (e : Fault) → Failed source k n Nothing e → Failed source m n Nothing e
  failed_later source n e f =
      record {
        is = f.is;
        supply = sym same.lasts ∙ f.supply;
        left = record {
          size = f.left.size ∙ same.size;
          off = f.left.off;
          stands = λ b c h x. ⊎_elim (λ y. inl (same.fewer b c h y)) (λ y. inr y) (f.left.stands b c (rw same.size h) x);
          lasts = λ l. f.left.lasts (same.lasts ∙ l);
        };
      }

  -- and its refusal is that of the whole
  pub refused_later : {A B : Type 0} (source : Layer) (n : Meaning) (part : Result A Fault) (all : Result B Fault) (e : Fault) → (part ≡ Err e → all ≡ Err e)
      → PartRefused source k n part e → PartRefused source m n all e
  refused_later source n part all e f r = ⊎_elim (λ x. inl (same_trans same x.0, f x.1)) (λ x. inr (failed_later source n e x)) r

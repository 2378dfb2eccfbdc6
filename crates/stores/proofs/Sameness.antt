-- Meanings between which nothing changed. The check finds `same_trans` by itself where two calls change nothing; it
-- stands for who builds on a store. Assumes nothing.
use Rattle.std.proofs.Common.{sym, ◌∙◌}
use Rattle.stores.specs.Meanings.{Meaning, Settled, Same}

pub same_trans : {m k n : Meaning} → Same m k → Same k n → Same m n
same_trans s t =
    record {
      size = t.size ∙ s.size;
      on = t.on ∙ s.on;
      reads = λ b h. t.reads b (rw s.size h) ∙ s.reads b h;
      fewer = λ b c h x. s.fewer b c h (t.fewer b c (rw s.size h) x);
      more = λ b c h x. t.more b c (rw s.size h) (s.more b c h x);
      lasts = t.lasts ∙ s.lasts;
    }

pub settled_same : {m n : Meaning} → Settled m → Same m n → Settled n
settled_same z s =
    record {
      holds = λ b h. let k = rw s.size at h in rw (s.reads b k) (s.more b _ k (z.holds b k));
      only = λ b c h x. let k = rw s.size at h in z.only b c k (s.fewer b c k x) ∙ sym (s.reads b k);
    }

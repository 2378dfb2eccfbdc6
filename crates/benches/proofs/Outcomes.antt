-- What a bench's calls do to its meaning. Assumes nothing.
use Rattle.std.proofs.Common.{◌≡◌, ℕ, ◌<◌, Bool, true, false, cond, eqb, ltb, ◌⊎◌, List, [], ◌∷◌, ◌++◌, length, Ok, sym, refl, ap, ◌∙◌, subst, inl, inr, ⊎_elim, arith}
use Rattle.std.proofs.lemmas.Bool.{cases_eq, cond_both, true≢false, false≢true, ltb-true, ltb-false, eqb-true, eqb-false}
use Rattle.faults.specs.declared.faults.Layer.TheVariants.{Device}
use Rattle.stores.specs.Meanings.{Content, whole, Meaning, Settled, Written}
use Rattle.stores.specs.Outcomes.{Answer, WriteServed, WriteOutcome, FlushOutcome, Restarted}
use Rattle.stores.specs.Admission.{powered}
use Rattle.benches.specs.declared.held.Held.{Held}
use Rattle.benches.specs.declared.power.Power.{Power}
use Rattle.benches.specs.declared.power.Power.TheVariants.{Off, Fuse, Lasting}
use Rattle.benches.specs.Supplies.{is_on, is_lasting, started, goes, spent}
use Rattle.benches.specs.Held.{blocks_in, content, settled_all, writes_of, latest, Among, Inside, room_mem, room_held, bench_meaning}
use Rattle.benches.specs.Lawful.{latest_stands}
use Rattle.benches.proofs.Writes.{push_hit, push_miss, latest_push, among_push, content_settled_all, length_settled_all}
use Rattle.benches.proofs.Fates.{Stands, Fated}

-- settling leaves what is read, and no more may stand
record Calm (mem : List ℕ) (hs : List Held) (after : List ℕ) (rest : List Held) : Type 0 where
  pub reads : (b : ℕ) → latest (content after b) (writes_of rest b) ≡ latest (content mem b) (writes_of hs b)
  pub stands : (b : ℕ) (c : Content) → Stands after rest b c → Stands mem hs b c

calm_same : (mem : List ℕ) (hs : List Held) → Calm mem hs mem hs
calm_same mem hs = record { reads = λ b. refl; stands = λ b c s. s }

calm_settled : (mem : List ℕ) (hs : List Held) → Inside (length mem) hs → Calm mem hs (settled_all mem hs) []
calm_settled mem hs i =
    record {
      reads = λ b. content_settled_all mem hs b i;
      stands = λ b c s.
          ⊎_elim
          (λ e.
          let is = e ∙ content_settled_all mem hs b i in
          let P : Content → Type 0 = λ x. Among (writes_of hs b) x in
          ⊎_elim (λ q. inl (is ∙ q)) (λ a. inr (subst P (sym is) a)) (latest_stands (content mem b) (writes_of hs b)))
          (λ a. absurd a)
          s;
    }

calm_by : (t : Bool) (mem : List ℕ) (hs : List Held) → Inside (length mem) hs → Calm mem hs (cond t mem (settled_all mem hs)) (cond t hs [])
calm_by true mem hs i = calm_same mem hs
calm_by false mem hs i = calm_settled mem hs i

calm_room : (mem : List ℕ) (hs : List Held) → Inside (length mem) hs → Calm mem hs (room_mem mem hs) (room_held hs)
calm_room mem hs i = calm_by (ltb (length hs) 16) mem hs i

-- what may stand after a write was held
held_stands : (mem after : List ℕ) (hs rest : List Held) (h : Held) → Calm mem hs after rest → (b : ℕ) (c : Content) → Stands after (rest ++ h ∷ []) b c → Stands mem hs b c ⊎ Written h.block h.bytes b c
held_stands mem after hs rest h calm b c s =
    let P : List (List ℕ) → Type 0 = λ ws. Among ws c in
    ⊎_elim
    (λ e. inl (calm.stands b c (inl e)))
    (λ a.
    ⊎_elim
    (λ e. ⊎_elim (λ x. inl (calm.stands b c (inr x))) (λ y. inr (sym e, y)) (among_push (writes_of rest b) h.bytes c (subst P (push_hit rest h b e) a)))
    (λ ne. inl (calm.stands b c (inr (subst P (push_miss rest h b ne) a))))
    (cases_eq h.block b))
    s

-- the memory and the held writes after a write of h
record Holding (mem : List ℕ) (hs : List Held) (after : List ℕ) (all : List Held) (h : Held) : Type 0 where
  pub here : latest (content after h.block) (writes_of all h.block) ≡ whole h.bytes
  pub others : (b : ℕ) → (b ≡ h.block → ⊥) → latest (content after b) (writes_of all b) ≡ latest (content mem b) (writes_of hs b)
  pub stands : (b : ℕ) (c : Content) → Stands after all b c → Stands mem hs b c ⊎ Written h.block h.bytes b c

holding_calm : (mem after : List ℕ) (hs rest : List Held) (h : Held) → Calm mem hs after rest → Holding mem hs after (rest ++ h ∷ []) h
holding_calm mem after hs rest h calm =
    record {
      here =
          ap (λ (ws : List (List ℕ)). latest (content after h.block) ws) (push_hit rest h h.block refl)
          ∙ latest_push (content after h.block) (writes_of rest h.block) h.bytes;
      others = λ b ne.
          ap (λ (ws : List (List ℕ)). latest (content after b) ws) (push_miss rest h b (λ e. ne (sym e)))
          ∙ calm.reads b;
      stands = held_stands mem after hs rest h calm;
    }

holding : (mem : List ℕ) (hs : List Held) (h : Held) → Inside (length mem) hs → Holding mem hs (room_mem mem hs) (room_held hs ++ h ∷ []) h
holding mem hs h i = holding_calm mem (room_mem mem hs) hs (room_held hs) h (calm_room mem hs i)

-- a meaning with equal parts
bench_same : (P : Meaning → Type 0) (p q : Power) (mem after : List ℕ) (hs rest : List Held) → q ≡ p → after ≡ mem → rest ≡ hs → P (bench_meaning p mem hs) → P (bench_meaning q after rest)
bench_same P p q mem after hs rest e f g x =
    let A : Power → Type 0 = λ i. P (bench_meaning i mem hs) in
    let B : List ℕ → Type 0 = λ i. P (bench_meaning q i hs) in
    let C : List Held → Type 0 = λ i. P (bench_meaning q after i) in
    subst C (sym g) (subst B (sym f) (subst A (sym e) x))

-- the power: a call that goes through leaves it on
spent_go : (p : Power) → goes p ≡ true → is_on (spent p) ≡ true
spent_go Off g = g
spent_go (Fuse n) g =
    let P : Power → Type 0 = λ q. is_on q ≡ true in
    cond_both (eqb n 0) Off _ P (λ z. absurd (omega (arith, ltb-true 0 n g, eqb-true n 0 z))) (λ z. refl)
spent_go Lasting g = refl

-- a call that does not leaves it off, and it did not last
spent_cut : (p : Power) → goes p ≡ false → (is_on (spent p) ≡ false) × (is_lasting p ≡ false)
spent_cut Off g = (refl, refl)
spent_cut (Fuse n) g =
    let P : Power → Type 0 = λ q. is_on q ≡ false in
    (cond_both (eqb n 0) Off _ P (λ z. refl) (λ z. absurd (omega (arith, ltb-false 0 n g, cases_eq n 0, eqb-false n 0 z))), refl)
spent_cut Lasting g = absurd (true≢false g)

spent_lasting : (p : Power) → is_lasting p ≡ true → is_lasting (spent p) ≡ true
spent_lasting Off l = l
spent_lasting (Fuse n) l = absurd (false≢true l)
spent_lasting Lasting l = refl

size_room : (mem : List ℕ) (hs : List Held) → Inside (length mem) hs → length (room_mem mem hs) ≡ length mem
size_room mem hs i =
    let P : List ℕ → Type 0 = λ x. length x ≡ length mem in
    cond_both (ltb (length hs) 16) mem (settled_all mem hs) P (λ z. refl) (λ z. length_settled_all mem hs i)

write_served : (t : Bool) (p : Power) (mem : List ℕ) (hs : List Held) (h : Held) → goes p ≡ t → Inside (length mem) hs → WriteServed Device (bench_meaning p mem hs) (bench_meaning (spent p) (room_mem mem hs) (room_held hs ++ h ∷ [])) h.block h.bytes (powered Device t)
write_served true p mem hs h g i =
    let e = holding mem hs h i in
    record {
      size = ap blocks_in (size_room mem hs i);
      on = spent_go p g;
      here = e.here;
      others = λ b hb ne. e.others b ne;
      stands = λ b c hb s. e.stands b c s;
      lasts = spent_lasting p;
    }
write_served false p mem hs h g i =
    let e = holding mem hs h i in
    record {
      is = refl;
      supply = (spent_cut p g).1;
      left = record {
        size = ap blocks_in (size_room mem hs i);
        off = (spent_cut p g).0;
        stands = λ b c hb s. e.stands b c s;
        lasts = spent_lasting p;
      };
    }

write_base : (p : Power) (mem : List ℕ) (hs : List Held) (h : Held) → h.block < blocks_in (length mem) → is_on p ≡ true → Inside (length mem) hs → WriteOutcome 504 Device Device (bench_meaning p mem hs) (bench_meaning (spent p) (room_mem mem hs) (room_held hs ++ h ∷ [])) h.block h.bytes (powered Device (goes p))
write_base p mem hs h range on i =
    record {
      range = λ r. absurd (omega arith);
      buffer = λ r l. absurd (l h.long);
      off = λ r l o. absurd (true≢false (sym on ∙ o));
      served = λ r l o. write_served (goes p) p mem hs h refl i;
    }

pub write_outcome : (p q : Power) (mem after : List ℕ) (hs all : List Held) (h : Held) (r : Answer) → h.block < blocks_in (length mem) → is_on p ≡ true → Inside (length mem) hs → q ≡ spent p → after ≡ room_mem mem hs → all ≡ room_held hs ++ h ∷ [] → r ≡ powered Device (goes p) → WriteOutcome 504 Device Device (bench_meaning p mem hs) (bench_meaning q after all) h.block h.bytes r
write_outcome p q mem after hs all h r range on i e f g k =
    let P : Meaning → Type 0 = λ n. WriteOutcome 504 Device Device (bench_meaning p mem hs) n h.block h.bytes (powered Device (goes p)) in
    let Q : Answer → Type 0 = λ x. WriteOutcome 504 Device Device (bench_meaning p mem hs) (bench_meaning q after all) h.block h.bytes x in
    subst Q (sym k) (bench_same P (spent p) q (room_mem mem hs) after (room_held hs ++ h ∷ []) all e f g (write_base p mem hs h range on i))

-- a bench that holds nothing is settled
settled_none : (p : Power) (mem : List ℕ) → Settled (bench_meaning p mem [])
settled_none p mem = record { holds = λ b h. inl refl; only = λ b c h s. ⊎_elim (λ e. e) (λ a. absurd a) s }

went_on : (p : Power) → goes p ≡ true → is_on p ≡ true
went_on Off g = g
went_on (Fuse n) g = refl
went_on Lasting g = refl

flush_base : (p : Power) (mem : List ℕ) (hs : List Held) → goes p ≡ true → Inside (length mem) hs → FlushOutcome Device Device (bench_meaning p mem hs) (bench_meaning (spent p) (settled_all mem hs) []) (Ok tt)
flush_base p mem hs g i =
    let e = calm_settled mem hs i in
    record {
      off = λ o. absurd (true≢false (sym (went_on p g) ∙ o));
      served = λ o. record {
        size = ap blocks_in (length_settled_all mem hs i);
        on = spent_go p g;
        reads = λ b h. e.reads b;
        settled = settled_none (spent p) (settled_all mem hs);
        lasts = spent_lasting p;
      };
    }

pub flush_outcome : (p q : Power) (mem after : List ℕ) (hs none : List Held) → goes p ≡ true → Inside (length mem) hs → q ≡ spent p → after ≡ settled_all mem hs → none ≡ [] → FlushOutcome Device Device (bench_meaning p mem hs) (bench_meaning q after none) (Ok tt)
flush_outcome p q mem after hs none g i e f k =
    let P : Meaning → Type 0 = λ n. FlushOutcome Device Device (bench_meaning p mem hs) n (Ok tt) in
    bench_same P (spent p) q (settled_all mem hs) after [] none e f k (flush_base p mem hs g i)

started_on : (fuses : List ℕ) → is_on (started fuses) ≡ true
started_on [] = refl
started_on (n ∷ ns) = refl

started_lasting : (fuses : List ℕ) → fuses ≡ [] → is_lasting (started fuses) ≡ true
started_lasting fuses e = ap (λ (xs : List ℕ). is_lasting (started xs)) e

pub goes_on : (t : Bool) → ◌≡◌ {A = Answer} (Ok tt) (powered Device t) → t ≡ true
goes_on true r = refl
goes_on false r = cc

lasting_is : (p : Power) → is_lasting p ≡ true → p ≡ Lasting
lasting_is Off l = absurd (false≢true l)
lasting_is (Fuse n) l = absurd (false≢true l)
lasting_is Lasting l = refl

restart_base : (p : Power) (fuses : List ℕ) (mem after : List ℕ) (hs : List Held) → (p ≡ Lasting → fuses ≡ []) → Fated mem after hs (blocks_in (length mem)) → Restarted (bench_meaning p mem hs) (bench_meaning (started fuses) after [])
restart_base p fuses mem after hs past f =
    record {
      size = ap blocks_in f.long;
      on = started_on fuses;
      reads = λ b h. f.standing b;
      settled = settled_none (started fuses) after;
      lasts = λ l. started_lasting fuses (past (lasting_is p l));
    }

pub restart_outcome : (p q : Power) (fuses : List ℕ) (mem after : List ℕ) (hs none : List Held) → (p ≡ Lasting → fuses ≡ []) → Fated mem after hs (blocks_in (length mem)) → q ≡ started fuses → none ≡ [] → Restarted (bench_meaning p mem hs) (bench_meaning q after none)
restart_outcome p q fuses mem after hs none past f e k =
    let P : Meaning → Type 0 = λ n. Restarted (bench_meaning p mem hs) n in
    bench_same P (started fuses) q after after [] none e refl k (restart_base p fuses mem after hs past f)

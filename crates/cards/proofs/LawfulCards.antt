-- A mount accepts just the lawful cards. Assumes nothing.
use Rattle.std.proofs.Common.{◌≡◌, ℕ, zero, suc, ◌<◌, ◌≤◌, Bool, true, false, cond, ◌&&◌, ◌||◌, List, Some, None, Ok, Err, Option, refl, sym, ap, subst, ◌∙◌, arith, eqb, ltb, is_some, is_none, ⊎_elim}
use Rattle.std.proofs.lemmas.Bool.Decides.{nat_tests}
use Rattle.std.proofs.lemmas.Bool.{lt-ltb, ltb-true, le-leb, leb-true, eqb-true, eq-eqb, cases_eq}
use Rattle.faults.specs.declared.faults.Fault.{Fault}
use Rattle.faults.specs.declared.faults.Layer.{Layer}
use Rattle.faults.specs.declared.faults.Reason.TheVariants.{NoSuchBlock, OtherKind, BadEntry, BadSlot}
use Rattle.faults.specs.Refusals.{fault}
use Rattle.sampling.specs.Answers.{refusal}
use Rattle.stores.specs.Meanings.{Content, whole, torn}
use Rattle.layouts.specs.Heads.{Fields, keeps_limits, fields_at, lawful_head, bad_head, head_read}
use Rattle.cards.specs.Cards.{Card, slot_block, card_slot, entry_block, card_entry, entry_slot, newest_logged, filled}
use Rattle.cards.specs.Verdicts.{and_then, check, each, read_at, read_head, of_kind, head_of, previous, right_slot, entry_check, slot_check, body_check, mount_of}
use Rattle.cards.specs.Lawful.{IsWhole, LawfulLog, LawfulSlots, CardLaw}
use Rattle.cards.proofs.Checks.{then_ok, ok_then, each_ok, ok_each, check_ok}

-- a block that can be read
pub read_ok : (own : Layer) (b : ℕ) (c : Content) (bs : List ℕ) → read_at own b c ≡ Ok bs → c ≡ whole bs
read_ok own b (whole xs) bs e = ap whole cc
read_ok own b torn bs e = absurd cc

-- an entry that is right
pub record Right (wrong : List ℕ → Option ℕ) (h : Fields) (card : Card) (i : ℕ) : Type 0 where
  pub block : IsWhole (card (entry_block h i))
  pub ascends : previous h card i < (card_entry h card i).number
  pub counted : (card_entry h card i).number ≤ h.count
  pub candidate : (s : ℕ) × (entry_slot h card i ≡ Some s)
  pub record_is : wrong (card_entry h card i).bytes ≡ None

none_of : {A : Type 0} (o : Option A) → is_none o ≡ true → o ≡ None
none_of None e = refl
none_of (Some x) e = absurd cc

some_of : {A : Type 0} (o : Option A) → is_some o ≡ true → (x : A) × (o ≡ Some x)
some_of None e = absurd cc
some_of (Some x) e = (x, refl)

-- what an entry with a right slot is, test by test
right_parts : {A : Type 0} (a b c : Bool) (o : Option A) → is_some (cond ((a && b) && c) o None) ≡ true → (a ≡ true) × (b ≡ true) × (c ≡ true) × (is_some o ≡ true)
right_parts true true true o e = (refl, refl, refl, e)
right_parts true true false o e = absurd cc
right_parts true false c o e = absurd cc
right_parts false b c o e = absurd cc

parts_right : {A : Type 0} (a b c : Bool) (o : Option A) → a ≡ true → b ≡ true → c ≡ true → is_some o ≡ true → is_some (cond ((a && b) && c) o None) ≡ true
parts_right a b c o p q r s = rw (p, q, r) s

and_left : (a b : Bool) → (a && b) ≡ true → a ≡ true
and_left true b e = refl
and_left false b e = absurd cc

true_check : (b : Bool) (e : Fault) → b ≡ true → check b e ≡ Ok tt
true_check b e h = rw h refl

whole_read : (own : Layer) (b : ℕ) (c : Content) (w : IsWhole c) → read_at own b c ≡ Ok w.0
whole_read own b c w = rw w.1 refl

is_some_of : {A : Type 0} (o : Option A) (w : (x : A) × (o ≡ Some x)) → is_some o ≡ true
is_some_of o w = rw w.1 refl

is_none_of : {A : Type 0} (o : Option A) → o ≡ None → is_none o ≡ true
is_none_of o w = rw w refl

right_of : (own : Layer) (wrong : List ℕ → Option ℕ) (h : Fields) (card : Card) (i : ℕ) → entry_check own wrong h card i ≡ Ok tt → Right wrong h card i
right_of own wrong h card i e =
    let p = then_ok (read_at own (entry_block h i) (card (entry_block h i))) _ tt e in
    let q = right_parts _ _ _ (entry_slot h card i) (check_ok (is_some (right_slot wrong h (previous h card i) (card_entry h card i))) (refusal BadEntry i) p.2) in
    record {
      block = (p.0, read_ok own _ _ _ p.1);
      ascends = ltb-true _ _ q.0;
      counted = leb-true _ _ q.1;
      candidate = some_of _ q.3;
      record_is = none_of _ q.2;
    }

right_check : (own : Layer) (wrong : List ℕ → Option ℕ) (h : Fields) (card : Card) (i : ℕ) → Right wrong h card i → entry_check own wrong h card i ≡ Ok tt
right_check own wrong h card i r =
    ok_then (read_at own (entry_block h i) (card (entry_block h i))) _ _ tt (whole_read own _ _ r.block)
    (true_check (is_some (right_slot wrong h (previous h card i) (card_entry h card i))) (refusal BadEntry i)
    (parts_right _ _ _ (entry_slot h card i) (lt-ltb _ _ r.ascends) (le-leb _ _ r.counted) (is_none_of _ r.record_is) (is_some_of _ r.candidate)))

-- each entry's number is above those of all before it
ascends : (h : Fields) (card : Card) (wrong : List ℕ → Option ℕ) (n i : ℕ) → ((k : ℕ) → k < suc n → Right wrong h card k) → i < n
    → (card_entry h card i).number < (card_entry h card n).number
ascends h card wrong zero i r l = absurd (omega arith)
ascends h card wrong (suc n) i r l =
    let next : (card_entry h card n).number < (card_entry h card (suc n)).number = (r (suc n) (omega arith)).ascends in
    ⊎_elim (λ same. rw same next)
    (λ ne. let before : (card_entry h card i).number < (card_entry h card n).number = ascends h card wrong n i (λ k m. r k (omega arith)) (omega arith) in omega arith)
    (cases_eq i n)

above_zero : (h : Fields) (card : Card) (wrong : List ℕ → Option ℕ) (i : ℕ) → Right wrong h card i → 0 < (card_entry h card i).number
above_zero h card wrong i r = let a = r.ascends in omega arith

previous_below : (h : Fields) (card : Card) (wrong : List ℕ → Option ℕ) (i : ℕ) → LawfulLog wrong h card → i < h.entries
    → previous h card i < (card_entry h card i).number
previous_below h card wrong zero l m = l.from_one zero m
previous_below h card wrong (suc i) l m = l.ascending i (suc i) (omega arith) m

pub log_of : (own : Layer) (wrong : List ℕ → Option ℕ) (h : Fields) (card : Card) → each (entry_check own wrong h card) h.entries ≡ Ok tt → LawfulLog wrong h card
log_of own wrong h card e =
    let right : (i : ℕ) → i < h.entries → Right wrong h card i = λ i l. right_of own wrong h card i (each_ok _ _ i e l) in
    record {
      whole_blocks = λ i l. (right i l).block;
      ascending = λ i j l m. ascends h card wrong j i (λ k n. right k (omega arith)) l;
      from_one = λ i l. above_zero h card wrong i (right i l);
      counted = λ i l. (right i l).counted;
      candidates = λ i l. (right i l).candidate;
      records = λ i l. (right i l).record_is;
    }

log_check : (own : Layer) (wrong : List ℕ → Option ℕ) (h : Fields) (card : Card) → LawfulLog wrong h card → each (entry_check own wrong h card) h.entries ≡ Ok tt
log_check own wrong h card l =
    ok_each _ _ (λ i m. right_check own wrong h card i (record {
      block = l.whole_blocks i m;
      ascends = previous_below h card wrong i l m;
      counted = l.counted i m;
      candidate = l.candidates i m;
      record_is = l.records i m;
    }))

-- the sample blocks
slot_passes : (o : Option (List ℕ)) (w : Option ℕ) → (is_some o || is_none w) ≡ true → o ≡ None → w ≡ None
slot_passes None w e f = none_of w e
slot_passes (Some x) w e f = absurd cc

passes_slot : (o : Option (List ℕ)) (w : Option ℕ) → (o ≡ None → w ≡ None) → (is_some o || is_none w) ≡ true
passes_slot None w f = rw (f refl) refl
passes_slot (Some x) w f = refl

pub slots_of : (own : Layer) (wrong : List ℕ → Option ℕ) (h : Fields) (card : Card) → each (slot_check own wrong h card) (filled h) ≡ Ok tt → LawfulSlots wrong h card
slots_of own wrong h card e =
    let parts : (s : ℕ) → s < filled h → (bs : List ℕ) × (read_at own (slot_block s) (card (slot_block s)) ≡ Ok bs) × (check (is_some (newest_logged h card s h.entries) || is_none (wrong (card_slot card s))) (refusal BadSlot s) ≡ Ok tt) =
    λ s l. then_ok (read_at own (slot_block s) (card (slot_block s))) _ tt (each_ok _ _ s e l) in
    record {
      whole_blocks = λ s l. ((parts s l).0, read_ok own _ _ _ (parts s l).1);
      records = λ s l none. slot_passes _ _ (check_ok _ _ (parts s l).2) none;
    }

slots_check : (own : Layer) (wrong : List ℕ → Option ℕ) (h : Fields) (card : Card) → LawfulSlots wrong h card → each (slot_check own wrong h card) (filled h) ≡ Ok tt
slots_check own wrong h card l =
    ok_each _ _ (λ s m.
    ok_then (read_at own (slot_block s) (card (slot_block s))) _ _ tt (whole_read own _ _ (l.whole_blocks s m))
    (true_check (is_some (newest_logged h card s h.entries) || is_none (wrong (card_slot card s))) (refusal BadSlot s) (passes_slot _ _ (l.records s m))))

-- the head
kind_cases : (b : Bool) (code : ℕ) (g h : Fields) → eqb g.kind code ≡ b → cond b (Ok g) (Err (refusal OtherKind g.kind)) ≡ Ok h → (g ≡ h) × (h.kind ≡ code)
kind_cases true code g h k e = let same : g ≡ h = cc in (same, sym (ap (λ (x : Fields). x.kind) same) ∙ eqb-true _ _ k)
kind_cases false code g h k e = absurd cc

kind_of : (code : ℕ) (g h : Fields) → of_kind code g ≡ Ok h → (g ≡ h) × (h.kind ≡ code)
kind_of code g h e = kind_cases (eqb g.kind code) code g h refl e

-- a store with a block reads it
some_cases : (b : Bool) (own : Layer) (store : ℕ) (c : Content) (bs : List ℕ) → ltb 0 store ≡ b → cond b (read_at own 0 c) (Err (fault NoSuchBlock own 0)) ≡ Ok bs
    → (0 < store) × (c ≡ whole bs)
some_cases true own store c bs k e = (ltb-true _ _ k, read_ok own 0 c bs e)
some_cases false own store c bs k e = absurd cc

head_from : (own : Layer) (store code : ℕ) (card : Card) (h : Fields) → head_of own store code card ≡ Ok h
    → (0 < store) × ((bs : List ℕ) × (card 0 ≡ whole bs) × (head_read store bs ≡ Ok h)) × (h.kind ≡ code)
head_from own store code card h e =
    let p = then_ok (and_then (read_head own store card) (head_read store)) (of_kind code) h e in
    let q = then_ok (read_head own store card) (head_read store) p.0 p.1 in
    let k = kind_of code p.0 h p.2 in
    let r = some_cases (ltb 0 store) own store (card 0) q.0 refl q.1 in
    (r.0, (q.0, r.1, q.2 ∙ ap Ok k.0), k.1)

head_to : (own : Layer) (store code : ℕ) (card : Card) (h : Fields) → 0 < store → ((bs : List ℕ) × (card 0 ≡ whole bs) × (head_read store bs ≡ Ok h)) → h.kind ≡ code
    → head_of own store code card ≡ Ok h
head_to own store code card h some (bs, w, r) k =
    let first : read_head own store card ≡ Ok bs = rw (lt-ltb _ _ some, w) refl in
    ok_then (and_then (read_head own store card) (head_read store)) (of_kind code) h h (ok_then (read_head own store card) (head_read store) bs h first r)
    (ap (λ b. cond b (Ok h) (Err (refusal OtherKind h.kind))) (eq-eqb _ _ k))

-- a mount accepts just the lawful cards
pub card_law : (own : Layer) (code : ℕ) (wrong : List ℕ → Option ℕ) → CardLaw own code wrong
card_law own code wrong = record {
  accepted = λ store card h e.
      let p = then_ok (head_of own store code card) (λ g. and_then (body_check own wrong g card) (λ _. Ok g)) h e in
      let q = then_ok (body_check own wrong p.0 card) (λ _. Ok p.0) h p.2 in
      let same : p.0 ≡ h = cc in
      let head = head_from own store code card h (p.1 ∙ ap Ok same) in
      let body : body_check own wrong h card ≡ Ok tt = ap (λ (g : Fields). body_check own wrong g card) (sym same) ∙ q.1 in
      let r = then_ok (each (entry_check own wrong h card) h.entries) (λ _. each (slot_check own wrong h card) (filled h)) tt body in
      record { some = head.0; head = head.1; kind = head.2; log = log_of own wrong h card r.1; slots = slots_of own wrong h card r.2 };
  lawful = λ store card h l.
      ok_then (head_of own store code card) (λ g. and_then (body_check own wrong g card) (λ _. Ok g)) h h (head_to own store code card h l.some l.head l.kind)
      (ok_then (body_check own wrong h card) (λ _. Ok h) tt h
      (ok_then (each (entry_check own wrong h card) h.entries) (λ _. each (slot_check own wrong h card) (filled h)) tt tt (log_check own wrong h card l.log) (slots_check own wrong h card l.slots))
      refl);
}

-- a card that is mounted has at most 672 slots
limits_size : (x : Fields) → keeps_limits x ≡ true → x.size ≤ 672
limits_size x e = grind (arith, nat_tests)

read_size : (b : Bool) (x h : Fields) → cond b (Ok x) (Err bad_head) ≡ Ok h → (b ≡ true → keeps_limits x ≡ true) → h.size ≤ 672
read_size true x h e limits = let same : x ≡ h = cc in subst (λ (y : Fields). y.size ≤ 672) same (limits_size x (limits refl))
read_size false x h e limits = absurd cc

pub size_most : (own : Layer) (store code : ℕ) (wrong : List ℕ → Option ℕ) (card : Card) (h : Fields) → mount_of own store code wrong card ≡ Ok h → h.size ≤ 672
unfolding lawful_head
size_most own store code wrong card h e =
    let (bs, w, r) = ((card_law own code wrong).accepted store card h e).head in
    read_size _ (fields_at bs) h r (and_left _ _)

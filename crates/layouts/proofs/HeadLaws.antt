-- A head's bytes are its own, and the head of a block is the one whose bytes it has. Assumes nothing.
use Rattle.std.proofs.Common.{◌≡◌, ℕ, ◌+◌, ◌*◌, ◌/◌, ◌%◌, ◌^◌, ◌<◌, ◌≤◌, Bool, true, false, cond, ◌&&◌, List, Some, None, Ok, Err, Option, Result, leb, refl, sym, ap, subst, ◌∙◌, arith}
use Rattle.std.proofs.Props.{props}
use mathlib.Core.HLevel.{is_prop→PathP}
use Rattle.std.specs.Option.{option_map, ok_or, MatchOption}
use Rattle.std.specs.Str.{bytes_eq}
use Rattle.std.proofs.lemmas.Bool.{le-leb, leb-true}
use Rattle.std.proofs.lemmas.Bool.Decides.{nat_tests}
use Rattle.std.proofs.lemmas.Slice.Eq.{bytes_eq-Decides}
use Rattle.faults.specs.declared.faults.Fault.{Fault}
use Rattle.records.specs.Reading.{shown_as}
use Rattle.records.specs.Twelves.{four_back}
use Rattle.layouts.specs.Heads.{Fields, head_fields, fields_bytes, head_bytes, fields_at, fills, keeps_limits, made_head, card_blocks, lawful_head, bad_head, head_read, IsHeadOf, own_read}
use Rattle.layouts.specs.declared.heads.Head.{Head}
use Rattle.layouts.specs.declared.shapes.Shape.{Shape}

-- the numbers that two, four and eight bytes make
two_back : (n : ℕ) → n < 2 ^ 16 → (n / 256 % 256) * 256 + n % 256 ≡ n
two_back n h = omega arith

four_low : (n : ℕ) → (n / 16777216 % 256) * 16777216 + (n / 65536 % 256) * 65536 + (n / 256 % 256) * 256 + n % 256 ≡ n % 4294967296
four_low n = omega arith

joined : (high low n : ℕ) → high ≡ n / 4294967296 → low ≡ n % 4294967296 → high * 4294967296 + low ≡ n
joined high low n a b = omega arith

same_fields : (a b : Fields) → a.kind ≡ b.kind → a.log_blocks ≡ b.log_blocks → a.size ≡ b.size → a.seed ≡ b.seed → a.count ≡ b.count
    → a.entries ≡ b.entries → a ≡ b
same_fields a b k l m s n c = λ i. record { kind = k i; log_blocks = l i; size = m i; seed = s i; count = n i; entries = c i }

-- a head's bytes have its fields at their places
pub fields_back : (h : Head) → fields_at (head_bytes h) ≡ head_fields h
unfolding fields_bytes
fields_back h =
    let most = h.shape.most in
    let limited = h.shape.limited in
    let held = h.held in
    let seeded = h.seeded in
    let counted = h.counted in
    same_fields _ _ refl refl (two_back h.shape.size (omega arith))
    (joined _ _ h.seed (four_back (h.seed / 4294967296) (omega arith)) (four_low h.seed))
    (four_back h.count (omega arith)) (two_back h.entries (omega arith))

-- a head is its fields
order_prop : (a b : ℕ) → IsProp (a ≤ b)
order_prop a b = hlevel props

same_shape : (a b : Shape) → a.size ≡ b.size → a.log_blocks ≡ b.log_blocks → a ≡ b
same_shape a b s l = λ i. record {
  size = s i;
  log_blocks = l i;
  some = is_prop→PathP (λ j. 0 < s j) (λ j. order_prop _ _) a.some b.some i;
  most = is_prop→PathP (λ j. s j ≤ 672) (λ j. order_prop _ _) a.most b.most i;
  logged = is_prop→PathP (λ j. 0 < l j) (λ j. order_prop _ _) a.logged b.logged i;
  limited = is_prop→PathP (λ j. l j ≤ 64) (λ j. order_prop _ _) a.limited b.limited i;
}

same_parts : (a b : Head) → a.shape ≡ b.shape → head_fields a ≡ head_fields b → a ≡ b
same_parts a b s e = λ i. record {
  kind = (e i).kind;
  shape = s i;
  seed = (e i).seed;
  count = (e i).count;
  entries = (e i).entries;
  coded = is_prop→PathP (λ j. 0 < (e j).kind) (λ j. order_prop _ _) a.coded b.coded i;
  counted = is_prop→PathP (λ j. (e j).count ≤ 4000000000) (λ j. order_prop _ _) a.counted b.counted i;
  held = is_prop→PathP (λ j. (e j).entries ≤ 31 * (s j).log_blocks) (λ j. order_prop _ _) a.held b.held i;
  among = is_prop→PathP (λ j. (e j).entries ≤ (e j).count) (λ j. order_prop _ _) a.among b.among i;
  seeded = is_prop→PathP (λ j. (e j).seed < 2 ^ 64) (λ j. order_prop _ _) a.seeded b.seeded i;
}

same_head : (a b : Head) → head_fields a ≡ head_fields b → a ≡ b
same_head a b e = same_parts a b (same_shape a.shape b.shape (λ i. (e i).size) (λ i. (e i).log_blocks)) e

-- a head keeps its limits
limits_kept : (h : Head) → keeps_limits (head_fields h) ≡ true
limits_kept h =
    let some = h.shape.some in
    let most = h.shape.most in
    let logged = h.shape.logged in
    let limited = h.shape.limited in
    let coded = h.coded in
    let counted = h.counted in
    let held = h.held in
    let among = h.among in
    grind (arith, nat_tests)

-- whether a block is lawful, once its fields are known
lawful_by : (store : ℕ) (bs : List ℕ) (x : Fields) → fields_at bs ≡ x → lawful_head store bs ≡ (keeps_limits x && fills store bs x)
unfolding lawful_head
lawful_by store bs x e = ap (λ (y : Fields). keeps_limits y && fills store bs y) e

all_three : (a b c : Bool) → a ≡ true → b ≡ true → (a && (b && c)) ≡ c
all_three a b c p q = rw (p, q) refl

-- a head's own block is lawful where the sample has room
pub own_lawful : (store : ℕ) (h : Head) → lawful_head store (head_bytes h) ≡ leb (card_blocks (head_fields h)) store
own_lawful store h =
    lawful_by store (head_bytes h) (head_fields h) (fields_back h)
    ∙ all_three _ _ _ (limits_kept h) ((bytes_eq-Decides (head_bytes h) (head_bytes h)).1 refl)

-- reading a head's own block answers it
own_cases : (room : Bool) (h : Head) (r : Result Head Fault) → shown_as head_fields r ≡ cond room (Ok (head_fields h)) (Err bad_head) → r ≡ cond room (Ok h) (Err bad_head)
own_cases true h (Ok g) e = ap Ok (same_head g h cc)
own_cases true h (Err f) e = cc
own_cases false h (Ok g) e = cc
own_cases false h (Err f) e = cc

pub own_answer : (store : ℕ) (h : Head) (r : Result Head Fault) → shown_as head_fields r ≡ head_read store (head_bytes h) → r ≡ own_read store h
own_answer store h r e = own_cases (leb (card_blocks (head_fields h)) store) h r (e ∙ rw (own_lawful store h, fields_back h) refl)

-- what is read of a block has its bytes, and what is refused is no head's
is_head : (store : ℕ) (bs : List ℕ) (h : Head) (limits same room : Bool) → Ok (head_fields h) ≡ cond (limits && (same && room)) (Ok (fields_at bs)) (Err bad_head)
    → same ≡ bytes_eq (fields_bytes (fields_at bs)) bs → room ≡ leb (card_blocks (fields_at bs)) store → IsHeadOf store bs (Ok h)
is_head store bs h true true true e s r =
    let f : head_fields h ≡ fields_at bs = cc in
    let bytes : fields_bytes (fields_at bs) ≡ bs = (bytes_eq-Decides _ _).0 (sym s) in
    let room : card_blocks (fields_at bs) ≤ store = leb-true _ _ (sym r) in
    (ap fields_bytes f ∙ bytes, subst (λ (x : Fields). card_blocks x ≤ store) (sym f) room)
is_head store bs h true true false e s r = absurd cc
is_head store bs h true false room e s r = absurd cc
is_head store bs h false same room e s r = absurd cc

no_head : (store : ℕ) (bs : List ℕ) (f : Fault) (h : Head) → Err f ≡ head_read store bs → card_blocks (head_fields h) ≤ store → head_bytes h ≡ bs → ⊥
no_head store bs f h e room is =
    let lawful : lawful_head store bs ≡ true = ap (lawful_head store) (sym is) ∙ own_lawful store h ∙ le-leb _ _ room in
    let read : head_read store bs ≡ Ok (fields_at bs) = rw lawful refl in
    cc

pub head_of : (store : ℕ) (bs : List ℕ) (r : Result Head Fault) → shown_as head_fields r ≡ head_read store bs → IsHeadOf store bs r
unfolding lawful_head
head_of store bs (Ok h) e = is_head store bs h (keeps_limits (fields_at bs)) _ _ e refl refl
head_of store bs (Err f) e = λ h room is. no_head store bs f h e room is

-- the head that a block's fields make, kept if it fills the block
none_cases : (x : Fields) (limits fit : Bool) (r : Result Fields Fault) → r ≡ cond (limits && fit) (Ok x) (Err bad_head)
    → ◌≡◌ {A = Option Fields} None (cond limits (Some x) None) → Err bad_head ≡ r
none_cases x true fit r e n = cc
none_cases x false fit r e n = sym e

some_cases : (h : Head) (x : Fields) (fit : Fields → Bool) (limits b : Bool) (p : Option Head) (r : Result Fields Fault)
    → r ≡ cond (limits && fit x) (Ok x) (Err bad_head) → Some (head_fields h) ≡ cond limits (Some x) None → b ≡ fit (head_fields h)
    → p ≡ cond b (Some h) None → shown_as head_fields (ok_or p bad_head) ≡ r
some_cases h x fit true true p r e s f k =
    let same : head_fields h ≡ x = cc in
    let fits : fit x ≡ true = ap fit (sym same) ∙ sym f in
    rw k (ap Ok same ∙ sym (e ∙ rw fits refl))
some_cases h x fit true false p r e s f k =
    let same : head_fields h ≡ x = cc in
    let fits : fit x ≡ false = ap fit (sym same) ∙ sym f in
    rw k (sym (e ∙ rw fits refl))
some_cases h x fit false b p r e s f k = cc

pub kept_read : (store : ℕ) (bs : List ℕ) (o p : Option Head) → option_map head_fields o ≡ made_head (fields_at bs)
    → MatchOption o (p ≡ None) (λ h. (b : Bool) × (b ≡ fills store bs (head_fields h)) × (p ≡ cond b (Some h) None))
    → shown_as head_fields (ok_or p bad_head) ≡ head_read store bs
kept_read store bs None p e f =
    rw f (none_cases (fields_at bs) _ _ (head_read store bs) (ap (λ (b : Bool). cond b (Ok (fields_at bs)) (Err bad_head)) (lawful_by store bs (fields_at bs) refl)) e)
kept_read store bs (Some h) p e f =
    some_cases h (fields_at bs) (fills store bs) _ f.0 p (head_read store bs)
    (ap (λ (b : Bool). cond b (Ok (fields_at bs)) (Err bad_head)) (lawful_by store bs (fields_at bs) refl)) e f.1 f.2

-- a head's own block reads as that head where the sample has room
pub read_back : (store : ℕ) (h : Head) → card_blocks (head_fields h) ≤ store → head_read store (head_bytes h) ≡ Ok (head_fields h)
read_back store h room =
    ap (λ (b : Bool). cond b (Ok (fields_at (head_bytes h))) (Err bad_head)) (own_lawful store h ∙ le-leb _ _ room) ∙ ap Ok (fields_back h)

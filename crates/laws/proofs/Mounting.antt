-- What a mount keeps of the ledger. Assumes nothing.
use Rattle.std.proofs.Common.{◌≡◌, ℕ, ◌≤◌, ◌⊎◌, List, length, map, take, slice_get, Some, None, Ok, Err, Option, Result, unwrap_or, option_map, sym, refl, ap, ◌∙◌, subst, inl, inr, ⊎_elim, arith, length-take}
use Rattle.std.proofs.lemmas.Bool.{true≢false, false≢true}
use Rattle.std.proofs.lemmas.List.{length-map, take-map}
use Rattle.std.proofs.lemmas.Option.{slice_get-map}
use Rattle.faults.specs.declared.faults.Fault.{Fault}
use Rattle.layouts.specs.Heads.{Fields}
use Rattle.cards.specs.Memories.{Memory}
use Rattle.mounts.specs.Mounts.{MountOutcome}
use Rattle.samplers.specs.Views.{View}
use Rattle.samplers.specs.Calls.{Leaves}
use Rattle.recovery.proofs.Frames.{Frame, frame}
use Rattle.recovery.proofs.Recoveries.{Lost}
use Rattle.recovery.proofs.Opens.{Open}
use Rattle.ledgers.specs.Ledgers.{shut, reopened}
use Rattle.ledgers.specs.declared.calls.Call.TheVariants.{Mount}
use Rattle.ledgers.specs.declared.calls.Answer.TheVariants.{Mounted, Refused}
use Rattle.laws.specs.Setups.{Setup, meant}
use Rattle.laws.specs.Stages.{answered, MountWent}
use Rattle.laws.specs.declared.stages.Stage.TheVariants.{Sleeping}
use Rattle.laws.specs.Pasts.{Past}
use Rattle.laws.proofs.Given.{Given, AllRight, Remounted, LawfulSetup}
use Rattle.laws.proofs.Kept.{SameFrame, framed, pending, of, Kept, Keeps, opens, shuts, keeps}

-- a count that is the settled or the pending one is the settled or the waiting one
or_waiting : (w : Option ℕ) (d n : ℕ) → (n ≡ d) ⊎ (n ≡ unwrap_or w d) → (n ≡ d) ⊎ (w ≡ Some n)
or_waiting None d n (inl e) = inl e
or_waiting None d n (inr e) = inl e
or_waiting (Some v) d n (inl e) = inl e
or_waiting (Some v) d n (inr e) = inr (ap Some (sym e))

-- the first n of the records, if they are the first a of them
first_of : (xs rs : List (List ℕ)) (a n : ℕ) → a ≤ length rs → xs ≡ take a rs → n ≡ length xs → (n ≡ a) × (xs ≡ take n rs)
first_of xs rs a n le e f =
    let long = length-take a rs in
    let same : n ≡ a = f ∙ ap length e ∙ long ∙ omega arith in
    (same, e ∙ ap (λ (z : ℕ). take z rs) (sym same))

same_of : {h : Fields} (t : Memory) {base : ℕ} → frame base t ≡ framed h base → SameFrame t.head h
same_of t e =
    record { kind = ap (λ (f : Frame). f.kind) e; seed = ap (λ (f : Frame). f.seed) e; size = ap (λ (f : Frame). f.size) e; log_blocks = ap (λ (f : Frame). f.log_blocks) e }

module _ {S State K : Type 0} (x : Setup S State K) (h : Fields) (g : Given x) (law : LawfulSetup x) where
  right_of : (o : Option K) (bs : List ℕ) → option_map x.bytes o ≡ Some bs → (length bs ≡ 12) × (x.wrong bs ≡ None)
  right_of None bs e = absurd cc
  right_of (Some k) bs e = let same : bs ≡ x.bytes k = cc in rw same ((law.twelve k).long, law.right k)

  all_right : (ks : List K) → AllRight x.wrong (map x.bytes ks)
  all_right ks i bs e = right_of (slice_get ks i) bs (sym (slice_get-map x.bytes ks i) ∙ e)

  first_right : (n : ℕ) (ks : List K) → AllRight x.wrong (take n (map x.bytes ks))
  first_right n ks = rw (take-map x.bytes n ks) (all_right (take n ks))

  mount_ok : (p : Past K) (v w : View S) (n : ℕ) (t : Memory) → Kept x h p v → MountWent x v (Ok n) w → w.sample ≡ Some t
      → Remounted (framed h p.ledger.since) (meant x v.store) (meant x w.store) t (take p.ledger.settled (of x h p.ledger)) (take (pending p.ledger) (of x h p.ledger))
      → n ≡ t.head.count → Keeps x h p (Sleeping v) Mount (Mounted n) (Sleeping w)
  mount_ok p v w n t kept went some y count =
      let b = p.ledger in
      let long = length-map b.counted x.bytes in
      let is : n ≡ length y.records = count ∙ y.opens.count in
      let a = kept.holds.early in
      let c = kept.holds.later in
      let which : ((n ≡ b.settled) ⊎ (n ≡ pending b)) × (y.records ≡ take n (of x h b)) =
      ⊎_elim
      (λ e. let z = first_of y.records (of x h b) b.settled n (omega arith) e is in (inl z.0, z.1))
      (λ e. let z = first_of y.records (of x h b) (pending b) n (omega arith) e is in (inr z.0, z.1))
      y.which in
      let most : n ≤ length b.counted = ⊎_elim (λ (e : n ≡ b.settled). omega arith) (λ (e : n ≡ pending b). omega arith) which.0 in
      let same : y.records ≡ map x.bytes (take n b.counted) = which.1 ∙ take-map x.bytes n b.counted in
      keeps x h p (Sleeping v) Mount (Mounted n) (Sleeping w) (Ok n, w, refl, refl, went) (or_waiting b.waiting b.settled n which.0) most
      (record { lasting = λ s. tt; empties = tt; always = tt })
      (record {
        holds = opens x h g (reopened n b) w (y.goes.sound kept.holds.sound) refl refl (record {
          memory = t;
          memory_is = some;
          same = same_of t y.same;
          opens = subst (λ (rs : List (List ℕ)). Open b.since (meant x w.store) t rs n) same (subst (λ (k : ℕ). Open b.since (meant x w.store) t y.records k) (sym is) y.opens);
        });
        fresh = λ z. refl;
        sure = λ z. (refl, y.goes.lasts (kept.sure z).1);
      })

  mount_cut : (p : Past K) (v w : View S) (e : Fault) → Kept x h p v → MountWent x v (Err e) w → w.sample ≡ None
      → Lost (framed h p.ledger.since) x.source (meant x v.store) (meant x w.store) (take p.ledger.settled (of x h p.ledger)) (take (pending p.ledger) (of x h p.ledger)) e
      → Keeps x h p (Sleeping v) Mount (Refused e) (Sleeping w)
  mount_cut p v w e kept went none y =
      let b = p.ledger in
      keeps x h p (Sleeping v) Mount (Refused e) (Sleeping w) (Err e, w, refl, refl, went) tt tt
      (record { lasting = λ s. absurd (true≢false (sym (kept.sure s).1 ∙ y.supply)); empties = tt; always = (y.is, y.supply, y.off) })
      (record {
        holds = shuts x h (shut b) v w e kept.holds.sound kept.holds.room kept.holds.early kept.holds.later refl none y;
        fresh = λ z. absurd (false≢true z);
        sure = λ s. absurd (true≢false (sym (kept.sure s).1 ∙ y.supply));
      })

  mount_left : (p : Past K) (v w : View S) (r : Result ℕ Fault) (s : Option Memory) → h.kind ≡ x.code → Kept x h p v → MountWent x v r w → w.sample ≡ s
      → Leaves (MountOutcome x.own x.source x.code x.wrong (meant x v.store) (meant x w.store)) r s → Keeps x h p (Sleeping v) Mount (answered Mounted r) (Sleeping w)
  mount_left p v w (Ok n) (Some t) kind kept went is y =
      let b = p.ledger in
      let k = kept.holds in
      mount_ok p v w n t kept went is
      (g.remounted (framed h b.since) v.store w.store t _ _ k.safe k.sound k.room (first_right b.settled b.counted) (first_right (pending b) b.counted) kind (went.arrays t is) y.0) y.1
  mount_left p v w (Err e) None kind kept went is y =
      let b = p.ledger in
      let k = kept.holds in
      mount_cut p v w e kept went is
      (g.mount_lost (framed h b.since) v.store w.store e _ _ k.safe k.sound k.room (first_right b.settled b.counted) (first_right (pending b) b.counted) kind y)
  mount_left p v w (Ok n) None kind kept went is y = absurd y
  mount_left p v w (Err e) (Some t) kind kept went is y = absurd y

  pub mount_keeps : (p : Past K) (v w : View S) (r : Result ℕ Fault) → h.kind ≡ x.code → Kept x h p v → MountWent x v r w
      → Keeps x h p (Sleeping v) Mount (answered Mounted r) (Sleeping w)
  mount_keeps p v w r kind kept went = mount_left p v w r w.sample kind kept went refl went.outcome

-- Demand 3, that a reference keeps its context, a context its caller and a cell its payer, and what a bind to a known EX does, of the functions' own
-- replies: whatever replies the twelve calls and `step` give, so long as each meets its contract, the promise holds of the states in them. `Post` is a
-- contract as Rattle reads it from the source. Assumes nothing.
use Prim.Native.Nat.{ℕ, zero, suc, ◌+◌, ◌≤◌, ◌<◌}
use native.Mathlib.Omega.{arith}
use mathlib.Core.Path.{◌≡◌, refl, sym, ap, ap₂, subst, ◌∙◌}
use mathlib.Core.Bool.{Bool, true, false, ◌&&◌, not}
use mathlib.Core.Logic.{◌⊎◌, inl, inr}
use mathlib.Core.List.{List, [], ◌∷◌}
use lib.Dec.{eqb}
use Rattle.numbers.specs.Below.{bit}
use Rattle.tables.specs.declared.State.{State}
use Rattle.tables.specs.declared.Reply.{Reply}
use Rattle.tables.specs.declared.Call.{Call}
use Rattle.tables.specs.declared.Call.TheVariants.{Start, New, Set, Bind, Export, Indirect, Transfer, Drop, ReadCell, AskWeight, Deliver, Bound}
use Rattle.tables.specs.declared.Status.TheVariants.{Reading, Known}
use Rattle.tables.specs.declared.Kind.TheVariants.{Var, Val, Ex}
use Rattle.tables.specs.declared.Outcome.TheVariants.{Done}
use Rattle.tables.specs.Machine.{Tables, eight, tables}
use Rattle.tables.specs.Parts.{place, is_free, caller_of, is_known, ex_names, is_live, entry_weight}
use Rattle.tables.specs.Look.{cell, entry, end_kind, message, put_cell}
use Rattle.rules.specs.Answers.{made, reply, succeeds, value_of, checked}
use Rattle.states.specs.Sound.{held, sound}
use Rattle.states.specs.Chains.{EndsIn}
use Rattle.rules.specs.Calls.{bound, B}
use Rattle.rules.specs.Deliver.{deliver}
use Rattle.states.specs.Machines.{Sized}
use Rattle.rules.specs.Step.{is_start, binds_unknown, step, drained, successes, Reached, begun, after}
use Rattle.rules.specs.Payers.{is_caller, payer, CellLeadsTo}
use Rattle.rules.specs.Statements.{message_names, ComesToAnEnd, holds_ready, AtRest, read_of_unbound, KnownWith, KeepsNaming, KeepsCallers, KeepsContext, KeepsPayers, MovesPayers, TakesKnownValue}
use Rattle.rules.proofs.Eight.{demand_3_of_eight, calls_keep_sound_of_eight}
use Rattle.rules.proofs.KnownBind.{known_bind_is_done}
use Rattle.quiet.proofs.start.Reads as start_contract
use Rattle.quiet.proofs.new.Reads as new_contract
use Rattle.quiet.proofs.set.Reads as set_contract
use Rattle.quiet.proofs.bind.Reads as bind_contract
use Rattle.sending.proofs.export.Reads as export_contract
use Rattle.sending.proofs.indirect.Reads as indirect_contract
use Rattle.sending.proofs.transfer.Reads as transfer_contract
use Rattle.sending.proofs.drop.Reads as drop_contract
use Rattle.sending.proofs.read.Reads as read_contract
use Rattle.sending.proofs.ask.Reads as ask_contract
use Rattle.quiet.proofs.bound.Reads as bound_contract
use Rattle.deliveries.proofs.deliver.Reads as deliver_contract
use Rattle.calls.proofs.step.Reads as step_contract

-- the result r meets a contract for the arguments a
abbrev pub Meets : {A R E : Type 0} → (A → R → E → Type 0) → A → R → Type 0
Meets {A} {R} {E} post a r = (e : E) × post a r e

-- r is a reply to the call in the state s: it meets the contract of the call's own function, or that of `step`
pub data Replies (s : State) : Call → Reply → Type 0 where
  by_start : (p : ℕ) (r : Reply) → Meets (start_contract.Post tt) (p, tt) r → Replies s (Start p) r
  by_new : (w caller : ℕ) (r : Reply) → Meets (new_contract.Post tt) (s, (w, (caller, tt))) r → Replies s (New w caller) r
  by_set : (w c n : ℕ) (r : Reply) → Meets (set_contract.Post tt) (s, (w, (c, (n, tt)))) r → Replies s (Set w c n) r
  by_bind : (w c x : ℕ) (r : Reply) → Meets (bind_contract.Post tt) (s, (w, (c, (x, tt)))) r → Replies s (Bind w c x) r
  by_export : (w c to : ℕ) (r : Reply) → Meets (export_contract.Post tt) (s, (w, (c, (to, tt)))) r → Replies s (Export w c to) r
  by_indirect : (w c to : ℕ) (r : Reply) → Meets (indirect_contract.Post tt) (s, (w, (c, (to, tt)))) r → Replies s (Indirect w c to) r
  by_transfer : (w c to : ℕ) (r : Reply) → Meets (transfer_contract.Post tt) (s, (w, (c, (to, tt)))) r → Replies s (Transfer w c to) r
  by_drop : (w c : ℕ) (r : Reply) → Meets (drop_contract.Post tt) (s, (w, (c, tt))) r → Replies s (Drop w c) r
  by_read : (w c : ℕ) (r : Reply) → Meets (read_contract.Post tt) (s, (w, (c, tt))) r → Replies s (ReadCell w c) r
  by_ask : (w c : ℕ) (r : Reply) → Meets (ask_contract.Post tt) (s, (w, (c, tt))) r → Replies s (AskWeight w c) r
  by_deliver : (k : ℕ) (r : Reply) → Meets (deliver_contract.Post tt) (s, (k, tt)) r → Replies s (Deliver k) r
  by_bound : (r : Reply) → Meets (bound_contract.Post tt) (s, tt) r → Replies s Bound r
  by_step : (q : Call) (r : Reply) → Meets (step_contract.Post tt) (s, (q, tt)) r → Replies s q r

-- each is the rules' result of that call
pub reply_is : (s : State) (q : Call) (r : Reply) → Replies s q r → r ≡ reply (step eight (tables s) q)
unfolding step
reply_is s q r (by_start p x m) = m.1
reply_is s q r (by_new w caller x m) = m.1
reply_is s q r (by_set w c n x m) = m.1
reply_is s q r (by_bind w c y x m) = m.1
reply_is s q r (by_export w c to x m) = m.1
reply_is s q r (by_indirect w c to x m) = m.1
reply_is s q r (by_transfer w c to x m) = m.1
reply_is s q r (by_drop w c x m) = m.1
reply_is s q r (by_read w c x m) = m.1
reply_is s q r (by_ask w c x m) = m.1
reply_is s q r (by_deliver k x m) = m.1
reply_is s q r (by_bound x m) = m.1
reply_is s q r (by_step y x m) = m.1

-- the states reached by replies: to an accepted start, and to any call that is no start
pub data ReachedByReplies : State → Type 0 where
  started : {s : State} (p : ℕ) (r : Reply) → Replies s (Start p) r → succeeds r.outcome ≡ true → ReachedByReplies r.state
  stepped : {s : State} → ReachedByReplies s → (q : Call) → is_start q ≡ false → (r : Reply) → Replies s q r → ReachedByReplies r.state

-- slots delivered in this order by replies, so many of which succeed, and the state then
pub data DeliveredByReplies : State → List ℕ → ℕ → State → Type 0 where
  none : {s : State} → DeliveredByReplies s [] 0 s
  then : {s t : State} {ks : List ℕ} {n : ℕ} (k : ℕ) (r : Reply) → Replies s (Deliver k) r → DeliveredByReplies r.state ks n t
      → DeliveredByReplies s (k ∷ ks) (bit (succeeds r.outcome) + n) t

-- the slot k of the state s holds a ready message, and t is the state in a reply to its delivery
pub record Taken (s : State) (k : ℕ) (t : State) : Type 0 where
  pub is_ready : holds_ready eight (tables s) k ≡ true
  pub answer : Reply
  pub replies : Replies s (Deliver k) answer
  pub leaves : answer.state ≡ t

-- what is promised of such a state: demand 3, that a reference keeps its context, a context its caller and a cell its payer, and what a bind to a known
-- EX does, B being what `bound` answers
pub record Promised (s : State) : Type 0 where
  pub is_sound : sound eight (tables s) ≡ true
  pub weights : (w e : ℕ) → entry_weight (entry eight (tables s) w e) ≡ held eight (tables s) w e
  pub freed_at_nothing : (w e : ℕ) → is_live (entry eight (tables s) w e) ≡ not (eqb (held eight (tables s) w e) 0)
  pub no_loops : (o e : ℕ) → is_live (entry eight (tables s) o e) ≡ true → ComesToAnEnd eight (tables s) o e
  pub bound_answers : (b : Reply) → Replies s Bound b → b.outcome ≡ Done (B eight (tables s))
  pub at_most_b : (b : Reply) → Replies s Bound b → (ks : List ℕ) (n : ℕ) (t : State) → DeliveredByReplies s ks n t → n ≤ value_of b.outcome
  pub ready_succeeds : (ks : List ℕ) (n : ℕ) (t : State) → DeliveredByReplies s ks n t
      → (k : ℕ) (r : Reply) → Replies t (Deliver k) r → succeeds r.outcome ≡ holds_ready eight (tables t) k
  pub only_unbound_reads : (ks : List ℕ) (n : ℕ) (t : State) → DeliveredByReplies s ks n t → AtRest eight (tables t)
      → (k : ℕ) → read_of_unbound eight (tables t) (message (tables t) k) ≡ true
  pub rest_is_reached : (b : Reply) → Replies s Bound b → (at : ℕ → State) (slot : ℕ → ℕ) → at 0 ≡ s
      → ((n : ℕ) → AtRest eight (tables (at n)) ⊎ Taken (at n) (slot n) (at (suc n)))
      → (n : ℕ) × (n ≤ value_of b.outcome) × AtRest eight (tables (at n))
  pub brought : (ks : List ℕ) (n : ℕ) (t : State) → DeliveredByReplies s ks n t → AtRest eight (tables t)
      → (w c o e m v : ℕ) (a : Bool) → cell eight (tables s) w c ≡ Ex o e m Reading a → EndsIn eight (tables s) (place o e) v
      → KnownWith eight (tables t) w c o e v
  pub known_is_true : (w c o e n v : ℕ) (a : Bool) → cell eight (tables s) w c ≡ Ex o e n (Known v) a → EndsIn eight (tables s) (place o e) v
  pub refers_to_live : (o e : ℕ)
      → ((w c : ℕ) → ex_names o e (cell eight (tables s) w c) ≡ true → is_live (entry eight (tables s) o e) ≡ true)
      × ((k : ℕ) → message_names o e (message (tables s) k) ≡ true → is_live (entry eight (tables s) o e) ≡ true)
  pub reference_keeps_naming : (q : Call) → is_start q ≡ false → (r : Reply) → Replies s q r → KeepsNaming eight (tables s) (tables r.state)
  pub reference_keeps_context : (q : Call) → is_start q ≡ false → (r : Reply) → Replies s q r
      → (o e : ℕ) → is_live (entry eight (tables s) o e) ≡ true → is_live (entry eight (tables r.state) o e) ≡ true
      → KeepsContext eight (tables s) (tables r.state) o e
  pub callers_kept : (q : Call) → is_start q ≡ false → (r : Reply) → Replies s q r → KeepsCallers eight (tables s) (tables r.state)
  pub every_cell_is_paid : (w c : ℕ) → is_caller (payer eight (tables s) w c) ≡ not (is_free (cell eight (tables s) w c))
  pub context_pays : (w c v d : ℕ) → CellLeadsTo eight (tables s) w c v d → payer eight (tables s) w c ≡ caller_of (cell eight (tables s) v d)
  pub only_bind_moves_payers : (q : Call) → is_start q ≡ false → (r : Reply) → Replies s q r
      → (binds_unknown eight (tables s) q && succeeds r.outcome) ≡ false → KeepsPayers eight (tables s) (tables r.state)
  pub bind_moves_payers : (w c x : ℕ) (r : Reply) → Replies s (Bind w c x) r → is_known (end_kind eight (tables s) w x) ≡ false
      → succeeds r.outcome ≡ true → MovesPayers eight (tables s) (tables r.state) w c x
  pub known_bind_takes_value : (w c x o e n v caller : ℕ) (a : Bool) (r : Reply) → Replies s (Bind w c x) r → w < s.p
      → cell eight (tables s) w c ≡ Var caller → end_kind eight (tables s) w x ≡ Ex o e n (Known v) a
      → TakesKnownValue eight (tables s) (tables r.state) w c v caller

-- ---- replies are the rules' results
next_is : (s : State) (q : Call) (r : Reply) → Replies s q r → tables r.state ≡ (step eight (tables s) q).after
next_is s q r m = ap (λ (x : Reply). tables x.state) (reply_is s q r m)

succeeds_is : (s : State) (q : Call) (r : Reply) → Replies s q r → succeeds r.outcome ≡ succeeds (step eight (tables s) q).outcome
succeeds_is s q r m = ap (λ (x : Reply). succeeds x.outcome) (reply_is s q r m)

pub reached_rules : (s : State) → ReachedByReplies s → Reached eight (tables s)
unfolding step
reached_rules s (started {s = t} p r m ok) =
    subst (Reached eight) (sym (next_is t (Start p) r m))
    (begun p (sym (succeeds_is t (Start p) r m) ∙ ok))
reached_rules s (stepped {s = t} g q n r m) =
    subst (Reached eight) (sym (next_is t q r m)) (after (reached_rules t g) q n)

delivered_is : (s : State) (k : ℕ) (r : Reply) → Replies s (Deliver k) r → r ≡ reply (made eight (tables s) (deliver eight (tables s) k))
unfolding step
delivered_is s k r m = reply_is s (Deliver k) r m

delivered_rules : (s : State) (ks : List ℕ) (n : ℕ) (t : State) → DeliveredByReplies s ks n t
    → (n ≡ successes eight (tables s) ks) × (tables t ≡ drained eight (tables s) ks)
unfolding successes drained
delivered_rules s ks n t (none) = (refl, refl)
delivered_rules s ks n t (then {ks = rest} {n = m} k r c d) =
    let is = delivered_is s k r c in
    let next : tables r.state ≡ (made eight (tables s) (deliver eight (tables s) k)).after = ap (λ (x : Reply). tables x.state) is in
    let won : succeeds r.outcome ≡ succeeds (deliver eight (tables s) k).outcome = ap (λ (x : Reply). succeeds x.outcome) is in
    let ih = delivered_rules r.state rest m t d in (
      ap₂ (λ (b : Bool) (i : ℕ). bit b + i) won (ih.0 ∙ ap (λ (x : Tables). successes eight x rest) next),
      ih.1 ∙ ap (λ (x : Tables). drained eight x rest) next,
    )

module _ (s : State) (g : ReachedByReplies s) where
  bound_is : (b : Reply) → Replies s Bound b → b.outcome ≡ Done (B eight (tables s))
  unfolding step bound checked
  bound_is b m =
      ap (λ (x : Reply). x.outcome) (reply_is s Bound b m) ∙ rw (demand_3_of_eight.stays_sound (tables s) (reached_rules s g))

  at_most : (b : Reply) → Replies s Bound b → (ks : List ℕ) (n : ℕ) (t : State) → DeliveredByReplies s ks n t → n ≤ value_of b.outcome
  at_most b m ks n t d =
      subst (λ (i : ℕ). i ≤ value_of b.outcome) (sym (delivered_rules s ks n t d).0)
      (subst (λ (i : ℕ). successes eight (tables s) ks ≤ i) (sym (ap value_of (bound_is b m))) (demand_3_of_eight.at_most_b (tables s) (reached_rules s g) ks))

  ready_by : (ks : List ℕ) (n : ℕ) (t : State) → DeliveredByReplies s ks n t
      → (k : ℕ) (r : Reply) → Replies t (Deliver k) r → succeeds r.outcome ≡ holds_ready eight (tables t) k
  ready_by ks n t d k r m =
      ap (λ (y : Reply). succeeds y.outcome) (delivered_is t k r m)
      ∙ subst (λ (y : Tables). succeeds (deliver eight y k).outcome ≡ holds_ready eight y k) (sym (delivered_rules s ks n t d).1)
      (demand_3_of_eight.ready_succeeds (tables s) (reached_rules s g) ks k)

-- ---- rest is reached: of the first n states one is at rest, or n deliveries have succeeded
abbrev Takes : (ℕ → State) → (ℕ → ℕ) → Type 0
Takes at slot = (i : ℕ) → AtRest eight (tables (at i)) ⊎ Taken (at i) (slot i) (at (suc i))

abbrev RestOrMore : ℕ → (ℕ → State) → Type 0
RestOrMore n at = ((i : ℕ) × (i < n) × AtRest eight (tables (at i))) ⊎ ((ks : List ℕ) × DeliveredByReplies (at 0) ks n (at n))

rest_or_more : (n : ℕ) (at : ℕ → State) (slot : ℕ → ℕ) → ReachedByReplies (at 0) → Takes at slot → RestOrMore n at
rest_or_more zero at slot g takes = inr ([], none)
rest_or_more (suc n) at slot g takes = go (takes 0) (rest_or_more n (λ i. at (suc i)) (λ i. slot (suc i)))
  where
    go : AtRest eight (tables (at 0)) ⊎ Taken (at 0) (slot 0) (at 1)
        → (ReachedByReplies (at 1) → Takes (λ i. at (suc i)) (λ i. slot (suc i)) → RestOrMore n (λ i. at (suc i))) → RestOrMore (suc n) at
    go (inl rest) rec = inl (0, omega arith, rest)
    go (inr x) rec = onward (rec (subst ReachedByReplies x.leaves (stepped g (Deliver (slot 0)) refl x.answer x.replies)) (λ i. takes (suc i)))
      where
        one : succeeds x.answer.outcome ≡ true
        one = ready_by (at 0) g [] 0 (at 0) none (slot 0) x.answer x.replies ∙ x.is_ready

        onward : RestOrMore n (λ i. at (suc i)) → RestOrMore (suc n) at
        onward (inl r) = inl (suc r.0, omega (arith, r.1), r.2)
        onward (inr d) =
            let later = subst (λ (y : State). DeliveredByReplies y d.0 n (at (suc n))) (sym x.leaves) d.1 in
            let all = then (slot 0) x.answer x.replies later in
            let count : bit (succeeds x.answer.outcome) + n ≡ suc n = omega (arith, ap bit one) in
            inr (slot 0 ∷ d.0, subst (λ (i : ℕ). DeliveredByReplies (at 0) (slot 0 ∷ d.0) i (at (suc n))) count all)

rest_reached : (at : ℕ → State) (slot : ℕ → ℕ) → ReachedByReplies (at 0) → (b : Reply) → Replies (at 0) Bound b → Takes at slot
    → (n : ℕ) × (n ≤ value_of b.outcome) × AtRest eight (tables (at n))
rest_reached at slot g b m takes = go (rest_or_more (suc (value_of b.outcome)) at slot g takes)
  where
    go : RestOrMore (suc (value_of b.outcome)) at → (n : ℕ) × (n ≤ value_of b.outcome) × AtRest eight (tables (at n))
    go (inl r) = (r.0, omega (arith, r.1), r.2)
    go (inr d) =
        absurd (omega (arith, at_most (at 0) g b m d.0 (suc (value_of b.outcome)) (at (suc (value_of b.outcome))) d.1))

-- ---- the promise, of the replies
pub promised : (s : State) → ReachedByReplies s → Promised s
promised s g =
    let D = demand_3_of_eight in
    let r = reached_rules s g in
    record {
      is_sound = D.stays_sound (tables s) r;
      weights = D.weights (tables s) r;
      freed_at_nothing = D.freed_at_nothing (tables s) r;
      no_loops = D.no_loops (tables s) r;
      bound_answers = bound_is s g;
      at_most_b = at_most s g;
      ready_succeeds = ready_by s g;
      only_unbound_reads =
          λ ks n t d rest k.
          let q = (delivered_rules s ks n t d).1 in
          subst (λ (y : Tables). read_of_unbound eight y (message y k) ≡ true) (sym q) (D.only_unbound_reads (tables s) r ks (subst (AtRest eight) q rest) k);
      rest_is_reached =
          λ b m at slot first takes.
          rest_reached at slot (subst ReachedByReplies (sym first) g) b (subst (λ (y : State). Replies y Bound b) (sym first) m) takes;
      brought =
          λ ks n t d rest w c o e m v a is ends.
          let q = (delivered_rules s ks n t d).1 in
          subst (λ (y : Tables). KnownWith eight y w c o e v) (sym q) (D.brought (tables s) r w c o e m v a is ends ks (subst (AtRest eight) q rest));
      known_is_true = D.known_is_true (tables s) r;
      refers_to_live = D.refers_to_live (tables s) r;
      reference_keeps_naming =
          λ q n x m. subst (KeepsNaming eight (tables s)) (sym (next_is s q x m)) (D.reference_keeps_naming (tables s) r q n);
      reference_keeps_context =
          λ q n x m o e live.
          subst (λ (t : Tables). is_live (entry eight t o e) ≡ true → KeepsContext eight (tables s) t o e) (sym (next_is s q x m))
          (D.reference_keeps_context (tables s) r q n o e live);
      callers_kept = λ q n x m. subst (KeepsCallers eight (tables s)) (sym (next_is s q x m)) (D.callers_kept (tables s) r q n);
      every_cell_is_paid = D.every_cell_is_paid (tables s) r;
      context_pays = D.context_pays (tables s) r;
      only_bind_moves_payers =
          λ q n x m no_ref.
          let same = sym (ap (λ (b : Bool). binds_unknown eight (tables s) q && b) (succeeds_is s q x m)) ∙ no_ref in
          subst (KeepsPayers eight (tables s)) (sym (next_is s q x m)) (D.only_bind_moves_payers (tables s) r q n same);
      bind_moves_payers =
          λ w c x a m unknown ok.
          subst (λ (t : Tables). MovesPayers eight (tables s) t w c x) (sym (next_is s (Bind w c x) a m))
          (D.bind_moves_payers (tables s) r w c x unknown (sym (succeeds_is s (Bind w c x) a m) ∙ ok));
      known_bind_takes_value =
          λ w c x o e n v caller a y m there var known.
          subst (λ (t : Tables). TakesKnownValue eight (tables s) t w c v caller) (sym (next_is s (Bind w c x) y m))
          (D.known_bind_takes_value (tables s) r w c x o e n v caller a there var known);
    }

-- ---- and of any sound state: a bind to a known EX is done, and its cell has the value
pub known_bind_answered : (s : State) → sound eight (tables s) ≡ true → (w c x o e n v caller : ℕ) (a : Bool) (r : Reply) → Replies s (Bind w c x) r
    → w < s.p → cell eight (tables s) w c ≡ Var caller → end_kind eight (tables s) w x ≡ Ex o e n (Known v) a
    → r ≡ reply (record { outcome = Done 0; after = put_cell eight (tables s) w c (Val v caller) })
known_bind_answered s h w c x o e n v caller a r m there var known =
    reply_is s (Bind w c x) r m ∙ ap reply (known_bind_is_done eight (tables s) h w c x o e n v caller a there var known)

-- and, of the machine's sizes, whatever the call, the state in its reply is sound
pub sound_stays : (s : State) → Sized eight (tables s) → sound eight (tables s) ≡ true → (q : Call) (r : Reply) → Replies s q r
    → sound eight (tables r.state) ≡ true
sound_stays s z h q r m = subst (λ (t : Tables). sound eight t ≡ true) (sym (next_is s q r m)) (calls_keep_sound_of_eight (tables s) z h q)

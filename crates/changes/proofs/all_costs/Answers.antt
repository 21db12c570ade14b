-- `changes::all_costs` meets its contract: the sum over the slots of what each message counts. Assumes nothing.
use Rattle.std.proofs.Common.{◌≡◌, ◌≤◌, ◌<◌, ℕ, List, length, arith, rules, refl, sym, ◌∙◌}
use Rattle.std.specs.List.{sum_by}
use Rattle.std.proofs.lemmas.List.Recursion.{is_sum_by}
use Rattle.numbers.specs.Lists.{total}
use Rattle.numbers.specs.ListLaws.{total_below}
use Rattle.tables.specs.declared.Slot.{Slot}
use Rattle.tables.specs.declared.Message.TheVariants.{Empty}
use Rattle.tables.specs.Look.{message_at}
use Rattle.rules.specs.Calls.{costs, B}
use Rattle.changes.specs.Costs.{sum_small}
use Rattle.changes.proofs.all_costs.Goals as goal

summed : (E : ℕ) (slots : List Slot) → total (λ x. costs E x.message) slots ≡ sum_by (λ x. costs E x.message) slots
unfolding total
summed E = is_sum_by (total (λ x. costs E x.message)) (λ x. costs E x.message) refl (λ x xs. refl)

small : (E : ℕ) (slots : List Slot) → E ≤ 255 → length slots ≡ 64 → sum_by (λ x. costs E x.message) slots < 4294967296
small E slots few l =
    let below = total_below (λ x. costs E x.message) slots (record { message = Empty }) in
    rw (← summed E slots, below, l) (omega (arith, sum_small E few (message_at slots) 64))

pub sum-requires-clause-fits : goal.sum-requires-clause-fits
sum-requires-clause-fits c =
    let few : c.live_entries-live.result ≤ 255 = search rules in
    let l : length c.args.slots.now ≡ 64 = search rules in
    let fits = small c.live_entries-live.result c.args.slots.now few l in
    search rules

pub returns : goal.returns
unfolding B
returns c t e f =
    let n : c.sum.result ≡ sum_by (λ (x : Slot). costs c.live_entries-live.result x.message) c.args.slots.now = search rules in
    rw (← c.live_entries-live.ensures t e, f) (n ∙ sym (summed _ _))

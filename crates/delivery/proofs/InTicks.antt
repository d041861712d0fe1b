-- The list in ticks is the machine's, and so is the code's answer to either list.
use mathlib.Core.Path.{◌≡◌, refl, sym, ◌∙◌}
use mathlib.Core.Bool.{true}
use mathlib.Core.List.{List, [], ◌∷◌, ◌++◌}
use Rattle.calendar.specs.Limits.{day_length}
use Rattle.machine.specs.Log.{AllOctets, log}
use Rattle.machine.proofs.Invariants.{is_day_law}
use Rattle.balance.specs.Fresh.{Fresh, accepted_declaration, without}
use Rattle.balance.specs.InTicks.{in_ticks, entries_of, entries_in_ticks}
use Rattle.balance.proofs.InTicks.{balance_in_ticks}
use Rattle.kernel.specs.declared.Kernel.{Kernel}
use Rattle.delivery.specs.Delivered.{Use, Handed, records, answers, last, Delivered}
use Rattle.delivery.specs.InTicks.{as_ticked, answers_in_ticks, SleepsAsTicks, FreshDeliversInTicks}
use Rattle.delivery.proofs.Delivered.{next_state, answered, code_is_machine, code_balances, fresh_delivers}

-- ---- the second part of a list of uses

handed_on : (ds ws : List Use) (a : Kernel) → Handed a (ds ++ ws) → Handed (last a ds) ws
unfolding Handed last
handed_on [] ws a h = h
handed_on (d ∷ ds) ws a h = handed_on ds ws d.reply.kernel h.1

octets_on : (ds ws : List Use) → AllOctets (records (ds ++ ws)) → AllOctets (records ws)
unfolding AllOctets records
octets_on [] ws o = o
octets_on (d ∷ ds) ws o = octets_on ds ws o.1

-- ---- the code's answers in ticks are the machine's

as_entries : (us : List Use) (a : Kernel) → Handed a us → answers_in_ticks a us ≡ entries_in_ticks day_length a.state (records us)
unfolding Handed records answers_in_ticks as_ticked entries_in_ticks entries_of
as_entries [] a h = refl
as_entries (u ∷ us) a h = rw (as_entries us u.reply.kernel h.1, next_state a u h.0, answered a u h.0)

module _ (a : Kernel) (f : Fresh day_length a.state) (us : List Use) (h : Handed a us) (o : AllOctets (records us)) (q : without accepted_declaration (answers us) ≡ true) where
  in_ticks_law : (vs : List Use) → Handed a vs → records vs ≡ in_ticks day_length a.state (records us) → SleepsAsTicks a us vs
  in_ticks_law vs g e =
      let m = code_is_machine a us h in
      let n = code_is_machine a vs g in
      let (octets, none, balanced, same) = balance_in_ticks day_length is_day_law a.state f (records us) o (rw (← m.entries) q) in
      let told : answers vs ≡ log day_length a.state (in_ticks day_length a.state (records us)) = n.entries ∙ rw e in
      let undeclaring : without accepted_declaration (answers vs) ≡ true = rw told none in
      record {
        entries = told ∙ same.entries ∙ sym (as_entries us a h);
        state = n.state ∙ rw e same.state ∙ sym m.state;
        counts = λ x i. rw (told, m.entries) (same.counts x i);
        returns = λ v x. rw (told, m.entries) (same.returns v x);
        grants = λ i v x. rw (told, m.entries) (same.grants i v x);
        no_declaration = undeclaring;
        balanced = code_balances a f vs g (rw e octets) undeclaring;
      }

pub fresh_delivers_in_ticks : FreshDeliversInTicks
fresh_delivers_in_ticks a m us h o =
    let d = fresh_delivers a m us h o in
    let b = last a d.declaring in (
      d,
      in_ticks_law b d.fresh d.working (handed_on d.declaring d.working a (rw (← d.parts) h))
          (octets_on d.declaring d.working (rw (← d.parts) o)) d.no_declaration,
    )

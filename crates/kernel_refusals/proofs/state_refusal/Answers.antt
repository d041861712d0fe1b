-- Sort by sort.
use borrow.Author.Rules.{rules}
use Rattle.std.specs.Prelude.{Err}
use mathlib.Core.Path.{◌≡◌, sym, ◌∙◌, ap}
use Rattle.record.specs.Numbers.{refused_with}
use Rattle.record.specs.Refusals.{named, unless}
use Rattle.lists.specs.Lists.{every}
use Rattle.lock.specs.Locks.{returnable}
use Rattle.record.specs.Reading.{call_with}
use Rattle.machine.specs.Refusals.{unreturnable, refusal_by}
use Rattle.machine.specs.Sorts.{sort_of}
use Rattle.machine.specs.declared.Sort.{Sort}
use Rattle.kernel_refusals.proofs.RefusalLaws.{by_sort, refusal_by_law, told, failed, passed}
use Rattle.kernel_refusals.proofs.state_refusal.Goals as goal
use Rattle.kernel_refusals.proofs.state_refusal.Goals.{Start}

-- What the state refuses, for the sort of the mark.
sorted : (c : Start) (s : Sort) → c.args.sort ≡ s → by_sort s c.args.h.mark (call_with c.args.h c.args.list) c.args.r c.args.t c.args.locks c.args.now c.args.next
    ≡ refusal_by c.args.h.mark (call_with c.args.h c.args.list) c.args.r c.args.t c.args.locks c.args.now c.args.next
sorted c s e = let a = c.args in refusal_by_law (call_with a.h a.list) a.r a.t a.locks a.now a.next a.h.mark s (sym c.requires.sort_value ∙ e)

pub returns-in-OneTask : goal.returns-in-OneTask
returns-in-OneTask c = c.named_refusal.ensures ∙ sorted (goal.at.returns-in-OneTask c).Start _ c.in-OneTask.is

pub returns-in-TheRunner : goal.returns-in-TheRunner
returns-in-TheRunner c = told _ _ c.unless.ensures ∙ rw c.is_someone.ensures (sorted (goal.at.returns-in-TheRunner c).Start _ c.in-TheRunner.is)

pub returns-in-ListAsked : goal.returns-in-ListAsked
returns-in-ListAsked c = told _ _ c.unless-in-ListAsked.ensures ∙ rw c.is_someone-in-ListAsked.ensures (sorted (goal.at.returns-in-ListAsked c).Start _ c.in-ListAsked.is)

pub returns-in_err-unless-in-ListGiven : goal.returns-in_err-unless-in-ListGiven
returns-in_err-unless-in-ListGiven c =
    let k : c.from_residual.result ≡ Err c.in_err-unless-in-ListGiven.field-0.0 = search rules in
    let a = c.args in
    let w = c.in-ListGiven.w in
    let next = unless (every (returnable w a.locks) (named (call_with a.h a.list))) (unreturnable w) 0 in
    ap refused_with k ∙ failed _ _ _ c.in_err-unless-in-ListGiven.ensures next ∙ rw c.is_someone-in-ListGiven.ensures (sorted (goal.at.returns-in_err-unless-in-ListGiven c).Start _ c.in-ListGiven.is)

pub returns-in_ok-unless-in-ListGiven : goal.returns-in_ok-unless-in-ListGiven
returns-in_ok-unless-in-ListGiven c =
    told _ _ c.unless-in-ListGiven-2.ensures
    ∙ rw (c.unreturnable.ensures, c.can_move_all.ensures) (rw (sym c.is_someone-in-ListGiven.ensures ∙ passed _ _ c.in_ok-unless-in-ListGiven.ensures) at (sorted (goal.at.returns-in_ok-unless-in-ListGiven c).Start _ c.in-ListGiven.is))

pub returns-in-EveryTask : goal.returns-in-EveryTask
returns-in-EveryTask c = c.time_refusal.ensures ∙ sorted (goal.at.returns-in-EveryTask c).Start _ c.in-EveryTask.is

pub returns-in-Declaration : goal.returns-in-Declaration
returns-in-Declaration c = sorted (goal.at.returns-in-Declaration c).Start _ c.in-Declaration.is

pub returns-in-AnInterrupt : goal.returns-in-AnInterrupt
returns-in-AnInterrupt c = sorted (goal.at.returns-in-AnInterrupt c).Start _ c.in-AnInterrupt.is

-- What the code hands back is the machine's log and last kernel, so the machine's balance is the code's.
use mathlib.Core.Path.{◌≡◌, refl, sym, ap, ◌∙◌}
use mathlib.Core.List.{List, [], ◌∷◌, ◌++◌}
use mathlib.Core.Logic.{inl, inr}
use Prim.Native.Nat.{ℕ}
use lib.ListN.{length}
use native.Mathlib.Omega.{arith}
use Rattle.calendar.specs.Limits.{day_length}
use Rattle.machine.specs.State.{nothing}
use Rattle.machine.specs.Step.{step}
use Rattle.machine.specs.Log.{final, log}
use Rattle.machine.proofs.Invariants.{is_day_law}
use Rattle.machine.proofs.Joined.{step_is_carry}
use Rattle.balance.specs.Balance.{AtEachRecord, Balanced, Parted}
use Rattle.balance.proofs.Balanced.{balance}
use Rattle.balance.proofs.Parted.{all_parted}
use Rattle.kernel.specs.Reply.{reply}
use Rattle.kernel.specs.declared.Kernel.{Kernel}
use Rattle.kernel.specs.declared.Reply.{Reply}
use Rattle.delivery.specs.Delivered.{HandedFresh, Use, Promised, Handed, records, AnyRecords, answers, last, CodeIsMachine, AtEachUse, CodeBalanced, CodeBalances, Delivered, FreshDelivers}
use Rattle.delivery.proofs.Methods.{method_carries}

-- ---- one use is the machine's step

replied : (a : Kernel) (u : Use) → Promised a u → u.reply ≡ reply (step day_length a.state u.bytes)
replied a u (inl p) = p.learnt ∙ ap (λ (r : List ℕ). reply (step day_length a.state r)) p.refers
replied a u (inr p) =
    method_carries a p.learnt
    ∙ ap reply (sym (step_is_carry day_length a.state p.call p.four))
    ∙ ap (λ (r : List ℕ). reply (step day_length a.state r)) p.stands

module _ (a : Kernel) (u : Use) (p : Promised a u) where
  pub next_state : u.reply.kernel.state ≡ (step day_length a.state u.bytes).state
  unfolding reply
  next_state = ap (λ (r : Reply). r.kernel.state) (replied a u p)

  pub answered : u.reply.answer ≡ (step day_length a.state u.bytes).answer
  unfolding reply
  answered = ap (λ (r : Reply). r.answer) (replied a u p)

-- ---- any records

abbrev used : Kernel → List ℕ → Use
used a r = record { bytes = r; reply = reply (step day_length a.state r) }

used_promised : (a : Kernel) (r : List ℕ) → Promised a (used a r)
used_promised a r = inl (record { lifetime = []; slice = record { ref_ptr = (0, 0); now = r }; refers = refl; learnt = refl })

pub any_records : AnyRecords
unfolding Handed records
any_records [] a = ([], tt, refl)
any_records (r ∷ rs) a =
    let u = used a r in
    let (us, h, e) = any_records rs u.reply.kernel in
    (u ∷ us, (used_promised a r, h), ap (λ (l : List (List ℕ)). r ∷ l) e)

-- ---- a list of uses is the machine's list

as_log : (us : List Use) (a : Kernel) → Handed a us → answers us ≡ log day_length a.state (records us)
unfolding Handed answers records log
as_log [] a h = refl
as_log (u ∷ us) a h = rw (as_log us u.reply.kernel h.1, next_state a u h.0, answered a u h.0)

as_final : (us : List Use) (a : Kernel) → Handed a us → (last a us).state ≡ final day_length a.state (records us)
unfolding Handed last records final
as_final [] a h = refl
as_final (u ∷ us) a h = rw (as_final us u.reply.kernel h.1, next_state a u h.0)

pub code_is_machine : CodeIsMachine
code_is_machine a us h = record { entries = as_log us a h; state = as_final us a h }

at_each : (us : List Use) (a : Kernel) → Handed a us → AtEachRecord day_length a.state (records us) → AtEachUse a us
unfolding Handed records AtEachRecord AtEachUse
at_each [] a h e = tt
at_each (u ∷ us) a h e =
    (rw (next_state a u h.0, answered a u h.0) e.0, at_each us u.reply.kernel h.1 (rw (next_state a u h.0) e.1))

as_balanced : (a : Kernel) (us : List Use) → Handed a us → Balanced day_length a.state (records us) → CodeBalanced a us
as_balanced a us h b =
    record {
      machine = code_is_machine a us h;
      sums = rw (as_log us a h, as_final us a h) b.sums;
      each = at_each us a h b.each;
      last_tested = rw (as_final us a h) b.last_tested;
    }

pub code_balances : CodeBalances
code_balances a f us h o q = as_balanced a us h (balance day_length is_day_law a.state f (records us) o (rw (← as_log us a h) q))

-- ---- a list of uses parts as its records do

record Split (a : Kernel) (us : List Use) (ds ws : List (List ℕ)) : Type 0 where
  declaring : List Use
  working : List Use
  parts : us ≡ declaring ++ working
  first : records declaring ≡ ds
  second : records working ≡ ws
  first_handed : Handed a declaring
  second_handed : Handed (last a declaring) working

split : (ds ws : List (List ℕ)) (us : List Use) (a : Kernel) → Handed a us → records us ≡ ds ++ ws → Split a us ds ws
unfolding Handed records last
split [] ws us a h e =
    record {
      declaring = [];
      working = us;
      parts = refl;
      first = refl;
      second = e;
      first_handed = tt;
      second_handed = h;
    }
split (d ∷ ds) ws [] a h e = absurd (let l = ap length e in omega arith)
split (d ∷ ds) ws (u ∷ us) a h e =
    let d-same : u.bytes ≡ d = cc in
    let t : records us ≡ ds ++ ws = cc in
    let p = split ds ws us u.reply.kernel h.1 t in
    record {
      declaring = u ∷ p.declaring;
      working = p.working;
      parts = ap (λ (l : List Use). u ∷ l) p.parts;
      first = rw (d-same, p.first);
      second = p.second;
      first_handed = (h.0, p.first_handed);
      second_handed = p.second_handed;
    }

-- ---- from what `Kernel::fresh` hands back

delivered : (a : Kernel) → HandedFresh a → (us : List Use) → Handed a us → (p : Parted day_length (records us)) → Split a us p.declaring p.working → Delivered a us
delivered a m us h p s =
    let b = last a s.declaring in
    let entries : answers s.declaring ≡ log day_length nothing p.declaring = rw (as_log s.declaring a s.first_handed, m, s.first) in
    let made : b.state ≡ final day_length nothing p.declaring = rw (as_final s.declaring a s.first_handed, m, s.first) in
    let worked : answers s.working ≡ log day_length (final day_length nothing p.declaring) p.working = rw (as_log s.working b s.second_handed, made, s.second) in
    record {
      declaring = s.declaring;
      working = s.working;
      parts = s.parts;
      no_call = rw entries p.no_call;
      no_declaration = rw worked p.no_declaration;
      never_turned_away = rw (as_log us a h, m) p.never_turned_away;
      machine = code_is_machine a us h;
      fresh = rw made p.fresh;
      preset = rw (entries, made) p.preset;
      balanced = as_balanced b s.working s.second_handed (rw (made, s.second) p.balanced);
    }

pub fresh_delivers : FreshDelivers
fresh_delivers a m us h o =
    let p = all_parted day_length is_day_law (records us) o in
    delivered a m us h p (split p.declaring p.working us a h p.parts)

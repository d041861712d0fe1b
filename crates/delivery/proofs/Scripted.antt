-- A script's lines and last kernel are those of its records, which part and balance.
use mathlib.Core.Path.{sym, ap, ◌∙◌}
use mathlib.Core.List.{List, [], ◌∷◌, ◌++◌}
use Prim.Native.Nat.{ℕ, zero, suc, ◌+◌}
use lib.ListN.{length, drop}
use lib.Seq.{get_or-drop}
use Rattle.calendar.specs.Limits.{day_length}
use Rattle.layout.specs.Fields.{record_length, Octets}
use Rattle.machine.specs.State.{nothing}
use Rattle.machine.specs.Log.{AllOctets, final}
use Rattle.machine.proofs.Rows.{final_append}
use Rattle.machine.proofs.Invariants.{is_day_law}
use Rattle.balance.proofs.Parted.{all_parted}
use Rattle.script.specs.Records.{cut, records}
use Rattle.script.specs.Script.{going_on, Runs}
use Rattle.script.proofs.Going.{octets_part}
use Rattle.script.proofs.PromiseProofs.{scripts_carried}
use Rattle.delivery.specs.Scripted.{ScriptBalances, RestBalances}

octets_cut : (n : ℕ) (s : List ℕ) → Octets s → AllOctets (cut n s)
unfolding cut AllOctets
octets_cut zero s o = tt
octets_cut (suc n) [] o = tt
octets_cut (suc n) (b ∷ s) o =
    (octets_part (b ∷ s) 0 record_length o, octets_cut n (drop record_length (b ∷ s)) (λ i. rw (get_or-drop record_length (b ∷ s) i 0) (o (record_length + i))))

octets_first : (a b : List (List ℕ)) → AllOctets (a ++ b) → AllOctets a
unfolding AllOctets
octets_first [] b o = tt
octets_first (r ∷ a) b o = (o.0, octets_first a b o.1)

octets_both : (a b : List (List ℕ)) → AllOctets a → AllOctets b → AllOctets (a ++ b)
unfolding AllOctets
octets_both [] b o p = p
octets_both (r ∷ a) b o p = (o.0, octets_both a b o.1 p)

all_octets : (s : List ℕ) → Octets s → AllOctets (records s)
unfolding records
all_octets s = octets_cut (length s) s

pub rest_balances : RestBalances
rest_balances p past q m bytes before after r o u =
    let k = final day_length nothing past in
    let t : Runs day_length (going_on k) bytes before after r = rw (← u.refers.0, ← u.refers.1, ← u.refers.2, ← m) u.learnt in
    let c = scripts_carried day_length (going_on k) (records bytes) (length before) in
    record {
      done = c.done;
      split = c.split ∙ ap (λ (l : List (List ℕ)). c.done ++ l) (sym t.rest);
      text = rw c.text at t.text;
      script = t.script ∙ c.script ∙ ap going_on (sym (final_append day_length nothing past c.done));
      parted = all_parted day_length is_day_law (past ++ c.done) (octets_both past c.done q (octets_first c.done _ (rw c.split at (all_octets bytes o))));
    }

pub script_balances : ScriptBalances
unfolding final AllOctets
script_balances a m p b = rest_balances p [] tt (b ∙ ap going_on m)

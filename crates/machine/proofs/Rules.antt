-- Single rules.
use mathlib.Core.Path.{◌≡◌, refl, ap, ◌∙◌}
use mathlib.Core.Bool.{Bool, true, false, not, ◌&&◌}
use mathlib.Core.List.{map}
use Prim.Native.Nat.{ℕ, ◌<◌}
use native.Mathlib.Omega.{arith}
use lib.Dec.{ltb, leb, eqb}
use borrow.Author.Tests.{ne_eqb, eq-eqb, eqb-true, le-leb, leb-true, leb-false, ltb-true, lt-ltb, not-true}
use Rattle.layout.specs.declared.Call.{Call}
use Rattle.facts.proofs.Bools.{by_bool, contra, both, and_both, not_of_false}
use Rattle.lists.specs.Lists.{names}
use Rattle.lists.proofs.EveryLaws.{every_at, every_from}
use Rattle.lock.specs.Locks.{can_move, same_kind, value_at, bolt_at}
use Rattle.lock.specs.declared.Wait.TheVariants.{Request, Reserve, Enter}
use Rattle.lock.proofs.Levels.{same_kind_law}
use Rattle.task.specs.State.{wanted}
use Rattle.task.specs.declared.Task.{Task}
use Rattle.task.specs.declared.Turn.{Turn}
use Rattle.machine.specs.declared.State.{State}
use Rattle.record.specs.Refusals.{named}
use Rattle.machine.specs.Sets.{has, only, set_of, mark}
use Rattle.machine.specs.State.{task_at}
use Rattle.machine.specs.Granting.{goes_before, unopposed, available, could_be_granted}
use Rattle.machine.specs.Refusals.{refusal_by}
use Rattle.machine.specs.Calls.{work_of}
use Rattle.machine.specs.Work.{Work, changed, turns, every_turn}
use Rattle.machine.specs.Whole.{Asked}
use Rattle.machine.specs.Rules.{MarksNameSets, TurnsMarkSets, TryGoesOn, EqualWriterGoesBefore, LaterContinueIsTaken, GrantedIf, GrantedIffOpen}
use Rattle.machine.proofs.Below.{all_at, all_from}
use Rattle.machine.proofs.SetLaws.{members_each, has_only, has_only_other}
use Rattle.machine.proofs.Works.{set_at, set_beyond}
use Rattle.machine.proofs.Whole.{asks_whole}

pub marks_name_sets : MarksNameSets
marks_name_sets i m = refl

pub turns_mark_sets : TurnsMarkSets
unfolding changed every_turn
turns_mark_sets =
    record {
      one = λ k i c x. rw (members_each x (λ y. only i (mark y c.marks))) (has_only i (mark x c.marks));
      others = λ k i c x j ne. rw (members_each x (λ y. only i (mark y c.marks))) (has_only_other i j (mark x c.marks) ne);
      each = λ k n f x i room l.
          ap (has i) (members_each x (λ y. set_of (map (λ (u : Turn). mark y u.marks) (turns k.counts.tasks f k.tasks))))
          ∙ set_at k.counts.tasks f k.tasks room (λ u. mark x u.marks) i l;
      beyond = λ k n f x i room l.
          ap (has i) (members_each x (λ y. set_of (map (λ (u : Turn). mark y u.marks) (turns k.counts.tasks f k.tasks))))
          ∙ set_beyond k.counts.tasks f k.tasks room (λ u. mark x u.marks) i l;
      named = marks_name_sets;
      five = λ s. refl;
    }

tried : (k : State) (i : ℕ) (c : Call) (b : Bool) (w : Work) → Asked k i false Request c b w → w.tasks ≡ k.tasks
tried k i c true w h = h.tasks
tried k i c false w h = h.tried refl

pub try_goes_on : TryGoesOn
try_goes_on day k i c r e =
    let t = task_at k.tasks i in
    tried k i c (could_be_granted k.counts.tasks k.tasks k.locks t.current Request (named c)) (work_of day k c) (asks_whole day k i Request false c r (rw e))

pub equal_writer : EqualWriterGoesBefore
equal_writer x t w n = rw (w, n, le-leb t.current t.current (omega arith))

pub later_continue : LaterContinueIsTaken
unfolding refusal_by
later_continue k c z = rw (ne_eqb c.head.kind 0 z)

-- ---- what could be granted

behind : (q x : ℕ) (t : Task) → goes_before q x t ≡ false → t.wait ≡ Reserve → names (wanted t) x ≡ true → q < t.current
behind q x t e w m =
    by_bool (leb t.current q) (λ b. let g : goes_before q x t ≡ true = rw (w, m, b) in contra g e)
    (λ b. leb-false t.current q b)

not_before_law : (q x : ℕ) (t : Task) → (t.wait ≡ Reserve → names (wanted t) x ≡ true → q < t.current) → goes_before q x t ≡ false
not_before_law q x t h =
    by_bool (goes_before q x t)
    (λ g.
    let a = both (same_kind t.wait Reserve && leb t.current q) (names (wanted t) x) g in
    let b = both (same_kind t.wait Reserve) (leb t.current q) a.0 in
    let l = h (same_kind_law t.wait Reserve b.0) a.1 in
    absurd (omega (arith, leb-true t.current q b.1)))
    (λ g. g)

pub granted_iff_open : GrantedIffOpen
unfolding could_be_granted available can_move unopposed
granted_iff_open n ts r q l =
    record {
      request = (
        λ e x m. ltb-true 0 (value_at r x) (both (ltb 0 (value_at r x)) _ (every_at _ l x e m)).0,
        λ h. every_from _ l (λ x m. and_both (lt-ltb 0 (value_at r x) (h x m)) refl),
      );
      reserve = (
        λ e x m.
            let p = both (not (bolt_at r x).writer) (eqb (bolt_at r x).readers 0) (both _ _ (every_at _ l x e m)).0 in
            (not-true _ p.0, eqb-true _ _ p.1),
        λ h. every_from _ l (λ x m. and_both (and_both (not_of_false _ (h x m).0) (eq-eqb _ _ (h x m).1)) refl),
      );
      enter = (
        λ e x m.
            let a = both (not (bolt_at r x).writer && ltb (bolt_at r x).readers 65535) _ (every_at _ l x e m) in
            let p = both (not (bolt_at r x).writer) (ltb (bolt_at r x).readers 65535) a.0 in
            record {
              writer = not-true _ p.0;
              readers = ltb-true _ _ p.1;
              writers = λ i b w y. behind q x (task_at ts i) (not-true _ (all_at n _ a.1 i b)) w y;
            },
        λ h. every_from _ l (λ x m.
            and_both (and_both (not_of_false _ (h x m).writer) (lt-ltb _ _ (h x m).readers))
            (all_from n _ (λ i b. not_of_false _ (not_before_law q x (task_at ts i) ((h x m).writers i b))))),
      );
    }

-- RELEASEs one after the other, by whoever runs, meet the hypotheses.
use Rattle.std.specs.Prelude.{None, Some}
use mathlib.Core.Path.{◌≡◌, refl, ap, ◌∙◌}
use mathlib.Core.Bool.{Bool, true, false, not, ◌&&◌, and-false}
use mathlib.Core.List.{List, [], ◌∷◌}
use Prim.Native.Nat.{ℕ, zero, suc, ◌+◌, ◌-◌, ◌≤◌, ◌<◌}
use native.Mathlib.Omega.{arith}
use lib.Dec.{ltb}
use lib.ListN.{length}
use lib.Seq.{set_out}
use borrow.Author.Tests.{ltb-true, ltb-false, lt-ltb, eq-eqb}
use Rattle.layout.specs.Fields.{Octets, head_of, list_of, bytes_of}
use Rattle.layout.specs.Marks.{among}
use Rattle.layout.specs.declared.Call.{Call}
use Rattle.layout.specs.declared.Mark.TheVariants.{RL}
use Rattle.lists.specs.Lists.{names, distinct, all_zero, every}
use Rattle.record.specs.Refusals.{most_value, uses, clean_names, clean_start, ranged, formed, listed, timed, shape, times}
use Rattle.record.specs.Reading.{accepted, opened}
use Rattle.lock.specs.Locks.{bit, waiting, value_at, can_move, move_one, for_each, take_all, give_all}
use Rattle.lock.specs.declared.Way.TheVariants.{Take}
use Rattle.lock.specs.declared.Wait.{Wait}
use Rattle.lock.specs.declared.Wait.TheVariants.{Nothing, Request, Reserve, Enter}
use Rattle.lock.specs.declared.Locks.{Locks}
use Rattle.facts.proofs.Bools.{by_bool, by_eq, contra, both, not_of_false}
use Rattle.lock.proofs.Levels.{value_same, value_other}
use Rattle.lists.proofs.EveryLaws.{names_same}
use Rattle.task.specs.State.{runnable, wanted}
use Rattle.machine.specs.Sums.{all_below}
use Rattle.machine.specs.State.{task_at}
use Rattle.machine.specs.Sorts.{declares}
use Rattle.machine.specs.Running.{urgency, running_of, runner, someone, Running}
use Rattle.machine.specs.Work.{Work}
use Rattle.machine.specs.Refusals.{declared_by, room_for, formal_refusal, refusal_by}
use Rattle.machine.specs.Serving.{Served, grant_to, serve}
use Rattle.machine.specs.Step.{finish, carry_out, step}
use Rattle.machine.specs.OnePass.{unserved}
use Rattle.machine.specs.Log.{AllOctets}
use Rattle.machine.specs.Invariants.{IsDay, Passes}
use Rattle.machine.specs.Scripts.{row, release}
use Rattle.machine.specs.declared.State.{State}
use Rattle.machine.proofs.Below.{all_from, sum_le, most_urgent_idle, most_urgent_at}
use Rattle.machine.proofs.SetLaws.{has_empty}
use Rattle.machine.proofs.Passed.{refusal_of}
use Rattle.machine.proofs.Facts.{ok_of_passes}
use Rattle.machine.proofs.Cases.{out_cases, carried_by, step_on}
use Rattle.machine.proofs.Works.{only_locks}
use Rattle.machine.proofs.Done.{runs}
use Rattle.machine.proofs.Serving.{served_waits, grant_other, serve_keeps}
use Rattle.machine.proofs.Accepted.{finish_keeps, held_on}
use Rattle.machine.proofs.Invariants.{step_passes}
use Rattle.wait_bound.specs.Queue.{is_ahead, ahead}
use Rattle.wait_bound.specs.Stages.{Stage, stages_from, stages, how_many, while}
use Rattle.wait_bound.specs.Waiting.{stage_of, releases, waits, ends, changes_at, changes_priority, overtakes, Undisturbed, release_row, HypothesesAreMet, ReleasesGrant}
use Rattle.wait_bound.proofs.Queued.{queued, low_number, none_left}
use Rattle.wait_bound.proofs.Works.{release_work}
use Rattle.wait_bound.proofs.Bounded.{stages_next, wait_is_bounded}
use Rattle.lock.proofs.Bits.{bit_le}

-- ---- the record

-- The call that a RELEASE of s opens to.
abbrev release_call : ℕ → Call
release_call s =
    record {
      head =
          record {
            mark = RL;
            number = 0;
            priority = 0;
            len = 1;
            kind = 0;
            interrupt = 0;
            endkind = 0;
            first = 0;
            period = 0;
            endtime = 0;
          };
      list = s ∷ 0 ∷ 0 ∷ 0 ∷ [];
    }

opens : (s : ℕ) → opened (release (s ∷ [])) ≡ accepted (release_call s)
unfolding bytes_of opened among head_of list_of
opens s = refl

pub octets_of : (l : List ℕ) → every (λ x. ltb x 256) l ≡ true → Octets l
unfolding every
octets_of [] e i = omega arith
octets_of (x ∷ l) e zero = ltb-true x 256 (both (ltb x 256) _ e).0
octets_of (x ∷ l) e (suc i) = octets_of l (both (ltb x 256) _ e).1 i

bytes_are : (s : ℕ) → s < 256 → Octets (release (s ∷ []))
bytes_are s l = octets_of (release (s ∷ [])) (unfold bytes_of every in rw (lt-ltb s 256 l))

-- ---- what serving leaves

take_one : (w : Wait) (r : Locks) (x s : ℕ) → value_at (move_one Take w r x) s ≤ value_at r s
unfolding move_one
take_one Nothing r x s = omega arith
take_one Request r x s =
    by_eq s x
    (λ q. by_bool (ltb x (length r.semaphores)) (λ e. rw (q, value_same r x (value_at r x - 1) (ltb-true _ _ e)) (omega arith))
    (λ e. rw (set_out r.semaphores x (value_at r x - 1) (ltb-false _ _ e)) (omega arith)))
    (λ q. rw (value_other r x (value_at r x - 1) s q) (omega arith))
take_one Reserve r x s = omega arith
take_one Enter r x s = omega arith

take_less : (w : Wait) (l : List ℕ) (r : Locks) (s : ℕ) → value_at (take_all w r l) s ≤ value_at r s
unfolding for_each
take_less w [] r s = omega arith
take_less w (x ∷ l) r s =
    let a = take_one w r x s in
    let b = take_less w l (move_one Take w r x) s in
    let c : value_at (take_all w (move_one Take w r x) l) s ≤ value_at r s = omega arith in
    c

-- No value grows, and who doesn't wait stays as it is.
serve_less : (n : ℕ) (ps : List ℕ) (p : Served) (s : ℕ) → value_at (serve n ps n p).locks s ≤ value_at p.locks s
serve_less n ps p s =
    serve_keeps n ps (λ q. value_at q.locks s ≤ value_at p.locks s)
    (λ q j l e h. unfold grant_to in
    let a = take_less (task_at q.tasks j).wait (wanted (task_at q.tasks j)) q.locks s in omega arith) n p (omega arith)

serve_rests : (n : ℕ) (ps : List ℕ) (p : Served) (i : ℕ) → waiting (task_at p.tasks i).wait ≡ false → task_at (serve n ps n p).tasks i ≡ task_at p.tasks i
serve_rests n ps p i w =
    serve_keeps n ps (λ q. task_at q.tasks i ≡ task_at p.tasks i)
    (λ q j l e h. by_eq i j (λ z. contra (rw (← z) at (served_waits n q j e)) (rw h w)) (λ z. grant_other q j i z ∙ h)) n p refl

-- ---- one RELEASE

module _ (day : ℕ) (k : State) (s : ℕ) (low : s < k.counts.semaphores) (run : someone (runner k) ≡ true) (room : value_at k.locks s < most_value) where
  unrefused : refusal_of day k (release_call s) ≡ 0
  unfolding refusal_of formal_refusal shape formed listed times timed uses clean_names clean_start ranged room_for declared_by refusal_by declares every names distinct all_zero can_move
  unrefused = rw (and-false, lt-ltb s k.counts.semaphores low, run, lt-ltb (value_at k.locks s) most_value room)

  abbrev given : Work
  given = only_locks k (give_all Request k.locks (s ∷ [])) k.enabled 0

  module _ (is_day : IsDay day) (p : Passes day k) where
    abbrev b : List ℕ
    b = release (s ∷ [])

    abbrev g : Stage
    g = stage_of day k b

    -- It is accepted.
    gives : step day k b ≡ finish k given
    gives =
        let c = release_call s in
        let out = out_cases day k c (λ t. t ≡ finish k given) (λ d. contra d (unfold declares in refl)) (λ d. ap (finish k) (release_work day k c refl)) in
        let on : step day k b ≡ carry_out day k c = step_on day k b p.tested ∙ rw (opens s, carried_by day k c, unrefused) in
        on ∙ out

    released : releases s g ≡ true
    unfolding finish
    released = rw (gives, opens s, names_same s [])

    -- Nothing disturbs.
    nobody_ends : (j : ℕ) → ends j g ≡ false
    unfolding finish only_locks
    nobody_ends j = rw (gives, has_empty j)

    same_current : (i : ℕ) → (task_at (step day k b).state.tasks i).current ≡ (task_at k.tasks i).current
    unfolding only_locks
    same_current i = rw gives (held_on (task_at given.tasks i) (task_at (finish k given).state.tasks i) (finish_keeps k given i)).current

    priorities_stay : changes_priority g ≡ false
    priorities_stay =
        let all : all_below k.counts.tasks (λ i. not (changes_at g i)) ≡ true =
        all_from k.counts.tasks _ (λ i l. not_of_false (changes_at g i) (rw (eq-eqb _ _ (same_current i)) (and-false ((task_at k.tasks i).alive && not (ends i g))))) in
        rw all

    nobody_asks : (j : ℕ) → overtakes s j g ≡ false
    nobody_asks j = rw (opens s, and-false)

    -- Some task still runs,
    still_runs : someone (runner (step day k b).state) ≡ true
    unfolding finish only_locks running_of
    still_runs = rw gives (go (runner k) refl run)
      where
        z : State
        z = (finish k given).state

        after : (i : ℕ) → i < k.counts.tasks → runnable (task_at z.tasks i) ≡ true → (r : Running) → runner z ≡ r → someone r ≡ true
        after i l e None q = contra e (most_urgent_idle k.counts.tasks (λ i. runnable (task_at z.tasks i)) (urgency z.places z.tasks) q i l)
        after i l e (Some x) q = refl

        go : (r : Running) → runner k ≡ r → someone r ≡ true → someone (runner z) ≡ true
        go None q e = contra e refl
        go (Some i) q e =
            let u = most_urgent_at k.counts.tasks (λ i. runnable (task_at k.tasks i)) (urgency k.places k.tasks) i q in
            after i u.0 (rw (serve_rests k.counts.tasks k.places (unserved given) i (runs k i q).2) u.1) (runner z) refl

    -- as many semaphores are declared, and the value has grown by one at most.
    same_count : (step day k b).state.counts.semaphores ≡ k.counts.semaphores
    unfolding finish
    same_count = rw gives

    one_more : value_at (step day k b).state.locks s ≤ value_at k.locks s + 1
    unfolding finish only_locks for_each move_one
    one_more =
        let h = ok_of_passes day k p in
        let a = serve_less k.counts.tasks k.places (unserved given) s in
        let v : value_at (give_all Request k.locks (s ∷ [])) s ≡ value_at k.locks s + 1 =
        value_same k.locks s (value_at k.locks s + 1) (omega (arith, h.tables.semaphores, h.counts_ok_law.semaphores)) in
        rw gives (omega (arith, a, v))

-- ---- one after the other

-- None of n stages disturbs, and all of them are RELEASEs.
record Tally (s j n : ℕ) (gs : List Stage) : Type 0 where
  calm : Undisturbed s j gs
  all : how_many (releases s) gs ≡ n

tally_none : (s j : ℕ) → Tally s j 0 []
unfolding how_many
tally_none s j = record { calm = record { lives = refl; priorities = refl; newcomers = refl }; all = refl }

tally_more : (s j n : ℕ) (g : Stage) (gs : List Stage) → ends j g ≡ false → changes_priority g ≡ false → overtakes s j g ≡ false → releases s g ≡ true
    → Tally s j n gs → Tally s j (suc n) (g ∷ gs)
unfolding how_many
tally_more s j n g gs e c o r t =
    record {
      calm = record { lives = rw (e, t.calm.lives); priorities = rw (c, t.calm.priorities); newcomers = rw (o, t.calm.newcomers) };
      all = rw (r, t.all) (omega arith);
    }

row_next : (b : List ℕ) (m : ℕ) → row (suc m) b ≡ b ∷ row m b
unfolding row
row_next b m = refl

module _ (day : ℕ) (is_day : IsDay day) (j s : ℕ) (byte : s < 256) where
  all_octets : (m : ℕ) → AllOctets (row m (release (s ∷ [])))
  unfolding AllOctets
  all_octets zero = unfold row in tt
  all_octets (suc m) = rw (row_next (release (s ∷ [])) m) (bytes_are s byte, all_octets m)

  tally : (m : ℕ) (k : State) → Passes day k → s < k.counts.semaphores → someone (runner k) ≡ true → value_at k.locks s + m ≤ most_value
      → Tally s j m (stages day k (row m (release (s ∷ []))))
  tally zero k p low run room = unfold row stages_from in tally_none s j
  tally (suc m) k p low run room =
      let b = release (s ∷ []) in
      let f : value_at k.locks s < most_value = omega arith in
      rw (row_next b m, stages_next day k p.tested b (row m b))
      (tally_more s j m (stage_of day k b) _ (nobody_ends day k s low run f is_day p j) (priorities_stay day k s low run f is_day p)
      (nobody_asks day k s low run f is_day p j) (released day k s low run f is_day p)
      (tally m (step day k b).state (step_passes day is_day k p b (bytes_are s byte)) (rw (same_count day k s low run f is_day p) low)
      (still_runs day k s low run f is_day p) (omega (arith, one_more day k s low run f is_day p))))

while_fewer : (f h : Stage → Bool) (gs : List Stage) → how_many f (while h gs) ≤ how_many f gs
unfolding how_many while
while_fewer f h [] = omega arith
while_fewer f h (g ∷ gs) = by_bool (h g) (λ e. rw e (let z = while_fewer f h gs in omega arith)) (λ e. rw e (omega arith))

while_calm : (s j : ℕ) (gs : List Stage) → Undisturbed s j gs → Undisturbed s j (while (waits j) gs)
while_calm s j gs u =
    record {
      lives = omega (arith, while_fewer (ends j) (waits j) gs, u.lives);
      priorities = omega (arith, while_fewer changes_priority (waits j) gs, u.priorities);
      newcomers = omega (arith, while_fewer (overtakes s j) (waits j) gs, u.newcomers);
    }

pub hypotheses_are_met : HypothesesAreMet
hypotheses_are_met day is_day k p j s a run m l =
    let q = queued day k p j s a in
    let low = low_number day k p j s q in
    let byte : s < 256 = omega (arith, (ok_of_passes day k p).counts_ok_law.semaphores) in
    let t = tally day is_day j s byte m k p low run (omega (arith, none_left day k p j s q)) in
    (all_octets day is_day j s byte m, record { undisturbed = while_calm s j _ t.calm; accepted = t.all })

pub releases_grant : ReleasesGrant
unfolding ahead
releases_grant day is_day k p j s a run =
    let n = sum_le k.counts.tasks (λ i. bit (is_ahead k s j i)) (λ i. bit_le (is_ahead k s j i)) in
    let h = hypotheses_are_met day is_day k p j s a run (suc (ahead k s j)) (omega (arith, n, (ok_of_passes day k p).counts_ok_law.tasks)) in
    wait_is_bounded day is_day k p (release_row s (suc (ahead k s j))) h.0 j s a h.1.undisturbed (omega (arith, h.1.accepted))

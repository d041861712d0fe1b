-- Serving: a wait goes on or is granted, and while task j waits for a free semaphore somebody ahead of it takes it.
use mathlib.Core.Path.{◌≡◌, refl, sym, ap, ◌∙◌}
use mathlib.Core.Logic.{◌≢◌}
use mathlib.Core.Bool.{true, false, ◌&&◌}
use mathlib.Core.List.{List, [], ◌∷◌}
use Prim.Native.Nat.{ℕ, ◌+◌, ◌≤◌, ◌<◌}
use native.Mathlib.Omega.{arith}
use lib.ListN.{length}
use borrow.Author.Tests.{lt-ltb, ne_eqb}
use Rattle.lists.specs.Lists.{names, every}
use Rattle.lock.specs.Locks.{waiting, same_kind, value_at, can_move, move_one, for_each, take_all, give_all}
use Rattle.lock.specs.declared.Way.TheVariants.{Take, Give}
use Rattle.lock.specs.declared.Wait.{Wait}
use Rattle.lock.specs.declared.Wait.TheVariants.{Nothing, Request, Reserve, Enter}
use Rattle.lock.specs.declared.Locks.{Locks}
use Rattle.facts.proofs.Bools.{by_bool, by_eq, contra}
use Rattle.lock.proofs.Levels.{size_value, value_same, value_other}
use Rattle.lists.proofs.EveryLaws.{names_same}
use Rattle.task.specs.State.{wanted}
use Rattle.task.specs.declared.Task.{Task}
use Rattle.machine.specs.Sets.{holds}
use Rattle.machine.specs.State.{task_at, place_at}
use Rattle.machine.specs.Running.{urgency}
use Rattle.machine.specs.Granting.{available, could_be_granted, servable}
use Rattle.machine.specs.Serving.{Served, grant_to, serve}
use Rattle.machine.specs.Promises.{First, AreBytes}
use Rattle.machine.specs.Whole.{Loop}
use Rattle.machine.proofs.SetLaws.{has_put, has_put_other}
use Rattle.machine.proofs.Serving.{grant_at, grant_other, serve_keeps}
use Rattle.wait_bound.specs.Queue.{queues}

-- ---- a wait goes on or is granted

module _ (n : ℕ) (ps : List ℕ) (p : Served) (i : ℕ) where
  -- A task that waits after a part of serving is as it was, and one that no longer does is marked.
  pub record Part (q : Served) : Type 0 where
    pub same : waiting (task_at q.tasks i).wait ≡ true → task_at q.tasks i ≡ task_at p.tasks i
    pub marked : waiting (task_at p.tasks i).wait ≡ true → waiting (task_at q.tasks i).wait ≡ false → holds i q.granted ≡ true

  one_part : (q : Served) (j : ℕ) → j < n → servable n q.tasks q.locks j ≡ true → Part q → Part (grant_to j q)
  one_part q j l e h =
      by_eq i j
      (λ z. record { same = λ w. contra (rw (z, grant_at n q j e) at w) refl; marked = λ w v. unfold grant_to in rw (z, has_put j q.granted) })
      (λ z. let o = grant_other q j i z in
      record { same = λ w. o ∙ h.same (rw o at w); marked = λ w v. unfold grant_to in rw (has_put_other j i q.granted z) (h.marked w (rw o at v)) })

  pub served_part : (turns : ℕ) → Part (serve n ps turns p)
  served_part turns =
      serve_keeps n ps Part one_part turns p (record { same = λ w. refl; marked = λ w v. contra w v })

-- ---- the value of one semaphore

-- Taking a list that isn't a REQUEST's or doesn't name s leaves its value.
take_elsewhere : (w : Wait) (l : List ℕ) (r : Locks) (s : ℕ) → (same_kind w Request && names l s) ≡ false → value_at (take_all w r l) s ≡ value_at r s
unfolding for_each move_one names
take_elsewhere w [] r s e = refl
take_elsewhere Nothing (x ∷ l) r s e = take_elsewhere Nothing l r s refl
take_elsewhere Request (x ∷ l) r s e =
    by_eq x s (λ q. contra (names_same x l) (rw (← q) at e))
    (λ q. take_elsewhere Request l (move_one Take Request r x) s (rw (ne_eqb x s q) at e) ∙ value_other r x _ s (λ z. q (sym z)))
take_elsewhere Reserve (x ∷ l) r s e = take_elsewhere Reserve l (move_one Take Reserve r x) s refl
take_elsewhere Enter (x ∷ l) r s e = take_elsewhere Enter l (move_one Take Enter r x) s refl

-- A RELEASE makes no value smaller,
give_one : (r : Locks) (x s : ℕ) → s < length r.semaphores → value_at r s ≤ value_at (move_one Give Request r x) s
unfolding move_one
give_one r x s h =
    by_eq s x (λ q. rw (← q, value_same r s (value_at r s + 1) h) (omega arith)) (λ q. rw (value_other r x (value_at r x + 1) s q) (omega arith))

give_room : (r : Locks) (x s : ℕ) → s < length r.semaphores → s < length (move_one Give Request r x).semaphores
unfolding move_one
give_room r x s h = rw (size_value r x (value_at r x + 1)).semaphores h

give_more : (l : List ℕ) (r : Locks) (s : ℕ) → s < length r.semaphores → value_at r s ≤ value_at (give_all Request r l) s
unfolding for_each
give_more [] r s h = omega arith
give_more (x ∷ l) r s h =
    let a = give_one r x s h in
    let b = give_more l (move_one Give Request r x) s (give_room r x s h) in
    let c : value_at r s ≤ value_at (give_all Request (move_one Give Request r x) l) s = omega arith in
    c

-- and that of each semaphore named positive.
given_one : (r : Locks) (s : ℕ) → s < length r.semaphores → 0 < value_at (move_one Give Request r s) s
unfolding move_one
given_one r s h = rw (value_same r s (value_at r s + 1) h) (omega arith)

pub given_free : (l : List ℕ) (r : Locks) (s : ℕ) → s < length r.semaphores → names l s ≡ true → 0 < value_at (give_all Request r l) s
unfolding for_each names
given_free [] r s h e = contra e refl
given_free (x ∷ l) r s h e =
    let room = give_room r x s h in
    by_eq x s
    (λ q. let a : 0 < value_at (move_one Give Request r x) s = rw q (given_one r s h) in
    let b = give_more l (move_one Give Request r x) s room in
    let c : 0 < value_at (give_all Request (move_one Give Request r x) l) s = omega arith in
    c)
    (λ q. given_free l (move_one Give Request r x) s room (rw (ne_eqb x s q) at e))

-- ---- who takes it

pub urgency_same : (ps : List ℕ) (ts us : List Task) (i : ℕ) → task_at ts i ≡ task_at us i → urgency ps ts i ≡ urgency ps us i
unfolding urgency
urgency_same ps ts us i e = rw e

module _ (n : ℕ) (ps : List ℕ) (small : AreBytes n ps) (apart : (i j : ℕ) → i < n → j < n → place_at ps i ≡ place_at ps j → i ≡ j)
    (s j : ℕ) (m : j < n) where
  -- Task j waits for s alone.
  abbrev pub Alone : Served → Type 0
  Alone p = ((task_at p.tasks j).wait ≡ Request) × (wanted (task_at p.tasks j) ≡ s ∷ [])

  -- Somebody ahead of j waits for s before serving, and no longer after it.
  pub record Taker (p q : Served) : Type 0 where
    pub who : ℕ
    pub below : who < n
    pub queued : queues s (task_at p.tasks who) ≡ true
    pub first : urgency ps p.tasks who < urgency ps p.tasks j
    pub over : waiting (task_at q.tasks who).wait ≡ false

  can : (p : Served) → Alone p → 0 < value_at p.locks s → servable n p.tasks p.locks j ≡ true
  unfolding could_be_granted available can_move every
  can p a v = rw (a.0, a.1, lt-ltb 0 _ v)

  -- Who waits in the end is as it was.
  loop_keeps : (i : ℕ) {p q : Served} → Loop n ps p q → waiting (task_at q.tasks i).wait ≡ true → task_at q.tasks i ≡ task_at p.tasks i
  loop_keeps i (Loop.stop f) w = refl
  loop_keeps i {p} (Loop.next x f g rest) w =
      let ih = loop_keeps i rest w in
      by_eq i x
      (λ z. let o : waiting (task_at (grant_to x p).tasks i).wait ≡ false = rw (z, g.over) in
      contra w (ap (λ (t : Task). waiting t.wait) ih ∙ o))
      (λ z. ih ∙ g.others i z)

  -- The first to be served, if it isn't j, is ahead of it.
  ahead_of : (p : Served) (i : ℕ) → First n (servable n p.tasks p.locks) ps p.tasks i → servable n p.tasks p.locks j ≡ true
      → i ≢ j → urgency ps p.tasks i < urgency ps p.tasks j
  unfolding urgency
  ahead_of p i f c ne =
      let a = f.smallest j m c in
      let b = small i f.below in
      by_eq (task_at p.tasks j).current (task_at p.tasks i).current
      (λ e. let t = f.ties j m c e in
      by_eq (place_at ps i) (place_at ps j) (λ z. absurd (ne (apart i j f.below m z))) (λ z. omega arith))
      (λ e. omega arith)

  pub taker : {p q : Served} → Loop n ps p q → Alone q → 0 < value_at p.locks s → Taker p q
  taker {p} (Loop.stop f) a v = contra (can p a v) (f j m)
  taker {p} {q} (Loop.next i f g rest) a v =
      let waits : waiting (task_at q.tasks j).wait ≡ true = rw a.0 in
      let same = loop_keeps j (Loop.next i f g rest) waits in
      let here : Alone p = (rw (← same) a.0, rw (← same) a.1) in
      let gone : waiting (task_at q.tasks i).wait ≡ false =
      by_bool (waiting (task_at q.tasks i).wait) (λ w. ap (λ (t : Task). waiting t.wait) (loop_keeps i rest w ∙ g.over)) (λ w. w) in
      by_eq i j (λ z. contra waits (rw (← z) gone))
      (λ z. by_bool (queues s (task_at p.tasks i))
      (λ e. record { who = i; below = f.below; queued = e; first = ahead_of p i f (can p here v) z; over = gone })
      (λ e.
      let t = taker rest a (rw (g.locks, take_elsewhere (task_at p.tasks i).wait (wanted (task_at p.tasks i)) p.locks s e) v) in
      let ne : t.who ≢ i = λ y. contra (rw (y, g.over) at t.queued) refl in
      record {
        who = t.who;
        below = t.below;
        queued = rw (g.others t.who ne) at t.queued;
        first = rw (urgency_same ps (grant_to i p).tasks p.tasks t.who (g.others t.who ne), urgency_same ps (grant_to i p).tasks p.tasks j (g.others j (λ y. z (sym y)))) at t.first;
        over = t.over;
      }))

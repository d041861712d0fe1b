-- Taking and giving back one number is the change of a value or of a bolt by what stands there.
use mathlib.Core.Path.{◌≡◌, refl, sym}
use mathlib.Core.Logic.{◌≢◌}
use mathlib.Core.Bool.{true, false}
use Prim.Native.Nat.{ℕ, ◌+◌, ◌-◌}
use lib.Seq.{get_or-set_other, set_comm}
use Rattle.lock.specs.declared.Way.{Way}
use Rattle.lock.specs.declared.Way.TheVariants.{Take, Give}
use Rattle.lock.specs.declared.Wait.{Wait}
use Rattle.lock.specs.declared.Wait.TheVariants.{Nothing, Request, Reserve, Enter}
use Rattle.lock.specs.declared.Bolt.{Bolt}
use Rattle.lock.specs.declared.Locks.{Locks}
use Rattle.lock.specs.Locks.{value_at, bolt_at, empty_bolt, with_value, with_bolt, move_one}
use Rattle.lock.specs.Promises.{SameAt}

abbrev pub on_value : (ℕ → ℕ) → Locks → ℕ → Locks
on_value g r x = with_value r x (g (value_at r x))

abbrev pub on_bolt : (Bolt → Bolt) → Locks → ℕ → Locks
on_bolt g r x = with_bolt r x (g (bolt_at r x))

module _ (P : (Locks → ℕ → Locks) → Type 0) (none : P (λ r x. r)) (value : (g : ℕ → ℕ) → P (on_value g))
    (bolt : (g : Bolt → Bolt) → P (on_bolt g)) where
  pub move_cases : (way : Way) (w : Wait) → P (move_one way w)
  unfolding move_one
  move_cases Take Nothing = none
  move_cases Take Request = value (λ v. v - 1)
  move_cases Take Reserve = bolt (λ b. record { writer = true; readers = b.readers })
  move_cases Take Enter = bolt (λ b. record { writer = b.writer; readers = b.readers + 1 })
  move_cases Give Nothing = none
  move_cases Give Request = value (λ v. v + 1)
  move_cases Give Reserve = bolt (λ b. record { writer = false; readers = b.readers })
  move_cases Give Enter = bolt (λ b. record { writer = b.writer; readers = b.readers - 1 })

-- A change at one place: no other place changes, and two of them can change places.
pub record Local (f : Locks → ℕ → Locks) : Type 0 where
  pub elsewhere : (r : Locks) (x y : ℕ) → y ≢ x → SameAt (f r x) r y
  pub swap : (r : Locks) (x y : ℕ) → x ≢ y → f (f r x) y ≡ f (f r y) x

local_none : Local (λ r x. r)
local_none = record { elsewhere = λ r x y h. record { value = refl; bolt = refl }; swap = λ r x y h. refl }

local_value : (g : ℕ → ℕ) → Local (on_value g)
local_value g =
    record {
      elsewhere = λ r x y h. record { value = get_or-set_other r.semaphores x y _ 0 h; bolt = refl };
      swap = λ r x y h. rw (
        get_or-set_other r.semaphores x y (g (value_at r x)) 0 (λ q. h (sym q)),
        get_or-set_other r.semaphores y x (g (value_at r y)) 0 h,
        set_comm r.semaphores x y (g (value_at r x)) (g (value_at r y)) h,
      );
    }

local_bolt : (g : Bolt → Bolt) → Local (on_bolt g)
local_bolt g =
    record {
      elsewhere = λ r x y h. record { value = refl; bolt = get_or-set_other r.bolts x y _ empty_bolt h };
      swap = λ r x y h. rw (
        get_or-set_other r.bolts x y (g (bolt_at r x)) empty_bolt (λ q. h (sym q)),
        get_or-set_other r.bolts y x (g (bolt_at r y)) empty_bolt h,
        set_comm r.bolts x y (g (bolt_at r x)) (g (bolt_at r y)) h,
      );
    }

pub move_local : (way : Way) (w : Wait) → Local (move_one way w)
move_local = move_cases Local local_none local_value local_bolt

-- Freshness and lapse (the paper, 'Steps'). ℕ's difference stops at 0, so 'a difference below zero counts as 0' is what `-` says.
use Rattle.std.specs.Prelude.{ℕ, ◌-◌, ◌*◌, Bool, nat_lt}

-- 11: stamp above the clock
abbrev pub is_ahead : ℕ → ℕ → Bool
is_ahead now stamp = nat_lt now stamp

-- 12: clock - stamp > W; an attempt and a place lapse by the same rule
abbrev pub is_stale : ℕ → ℕ → ℕ → Bool
is_stale now stamp window = nat_lt window (now - stamp)

-- a session lapses when now - since > L x U
unfoldable pub is_over : ℕ → ℕ → ℕ → ℕ → Bool
is_over now since lifetime unit = nat_lt (lifetime * unit) (now - since)

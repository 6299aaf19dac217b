-- The exit statuses with which each subcommand can end.
use Rattle.std.specs.Prelude.{◌≡◌, ◌≤◌, ◌⊎◌, ℕ}
use Rattle.command_line.specs.Invocations.{InvocationValue, upgrade}

-- The exit statuses of `upgrade`: 0 to 4, and 64 if both paths lead to the same file.
abbrev pub IsUpgradeStatus : ℕ → Type 0
IsUpgradeStatus status = (status ≤ 4) ⊎ (status ≡ 64)

-- The parsed subcommand can end with this exit status: 0 to 4, and for `upgrade` also 64.
abbrev pub CanEndWith : InvocationValue → ℕ → Type 0
CanEndWith (upgrade old new) status = IsUpgradeStatus status
CanEndWith _ status = status ≤ 4

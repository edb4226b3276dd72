-- How long the calls are (JVMS 6.5).
use Rattle.std.specs.Prelude.{ℕ, ◌==◌, ◌||◌, if◌then◌else◌}

-- how many bytes a call takes that has this opcode; 0 for other opcodes
abbrev pub call_size : ℕ → ℕ
call_size opcode =
    if (opcode == 0xb6) || ((opcode == 0xb7) || (opcode == 0xb8)) then 3
    else (if opcode == 0xb9 then 5 else 0)

-- The arithmetic of int and long (JVMS 2.3.1, 2.11.3, and the sections of 6.5 that are named here). A number is one of w
-- bits in two's complement; what doesn't fit wraps.
use Rattle.std.specs.Prelude.{ℕ, ◌/◌, ◌%◌, ◌^◌, ℤ, pos, negsuc, ◌+ℤ◌, ◌-ℤ◌, ◌*ℤ◌, neg_ℤ, int_lt, int_rem, Bool, false, ◌==◌, if◌then◌else◌, Option, Some, None}
use Rattle.std.specs.Int.{Width, w8, w16, w32, w64, cast_signed, cast_unsigned, int_wrap, int_wrapping_div, int_bit_and, int_bit_or, int_bit_xor, int_shl, int_shr}
use mir.Val.{bits}

-- iadd, ladd; isub, lsub; imul, lmul; ineg, lneg
abbrev pub add : Width → ℤ → ℤ → ℤ
add w a b = int_wrap w (a +ℤ b)

abbrev pub subtract : Width → ℤ → ℤ → ℤ
subtract w a b = int_wrap w (a -ℤ b)

abbrev pub multiply : Width → ℤ → ℤ → ℤ
multiply w a b = int_wrap w (a *ℤ b)

abbrev pub negate : Width → ℤ → ℤ
negate w a = int_wrap w (neg_ℤ a)

-- iand, land; ior, lor; ixor, lxor: bit by bit
abbrev pub and : Width → ℤ → ℤ → ℤ
and w a b = int_bit_and w a b

abbrev pub or : Width → ℤ → ℤ → ℤ
or w a b = int_bit_or w a b

abbrev pub xor : Width → ℤ → ℤ → ℤ
xor w a b = int_bit_xor w a b

-- how far a shift goes: by the low 5 bits of the count at 32 bits, and by the low 6 at 64
abbrev pub distance : Width → ℤ → ℕ
distance w count = cast_unsigned w32 count % bits w

-- ishl, lshl; ishr, lshr: rounding down; iushr, lushr: with zeros from above
abbrev pub shift_left : Width → ℤ → ℤ → ℤ
shift_left w a count = int_shl w a (distance w count)

abbrev pub shift_right : Width → ℤ → ℤ → ℤ
shift_right w a count = int_shr a (distance w count)

abbrev pub unsigned_shift_right : Width → ℤ → ℤ → ℤ
unsigned_shift_right w a count = cast_signed w (cast_unsigned w a / 2 ^ distance w count)

-- idiv, ldiv: rounding toward zero; irem, lrem: of the sign of the dividend. Nothing where the divisor is 0
abbrev pub is_zero : ℤ → Bool
is_zero (pos n) = n == 0
is_zero (negsuc n) = false

abbrev pub divide : Width → ℤ → ℤ → Option ℤ
divide w a b = if is_zero b then None else Some (int_wrapping_div w a b)

abbrev pub remainder : Width → ℤ → ℤ → Option ℤ
remainder w a b = if is_zero b then None else Some (int_rem a b)

-- lcmp
abbrev pub compare : ℤ → ℤ → ℤ
compare a b = if int_lt b a then pos 1 else (if int_lt a b then negsuc 0 else pos 0)

-- i2b, i2c, i2s; l2i: the low bits of an int, or of a long
abbrev pub to_byte : ℤ → ℤ
to_byte a = cast_signed w8 (cast_unsigned w32 a % 2 ^ 8)

abbrev pub to_char : ℤ → ℤ
to_char a = pos (cast_unsigned w32 a % 2 ^ 16)

abbrev pub to_short : ℤ → ℤ
to_short a = cast_signed w16 (cast_unsigned w32 a % 2 ^ 16)

abbrev pub to_int : ℤ → ℤ
to_int a = cast_signed w32 (cast_unsigned w64 a % 2 ^ 32)

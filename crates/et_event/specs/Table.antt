-- THE TABLE OF INSTRUCTIONS: the row of each opcode, in the groups of JVMS chapter 7. The section of 6.5 of that name says
-- what an instruction does. Opcodes that aren't here are of instructions that no class file of the profile has.
use Rattle.std.specs.Prelude.{ℕ, pos, negsuc, ◌==◌, if◌then◌else◌, List, [], ◌∷◌, ◌++◌, Option, Some, None}
use Rattle.et_class.specs.PoolOperands.Operand.TheVariants as operand
use Rattle.et_event.specs.declared.rows.Number.TheVariants as number
use Rattle.et_event.specs.declared.rows.Local.TheVariants.{Named, At}
use Rattle.et_event.specs.declared.rows.Rearrangement.TheVariants as stack
use Rattle.et_event.specs.declared.rows.Arithmetic.TheVariants as op
use Rattle.et_event.specs.declared.rows.Shift.TheVariants as shift
use Rattle.et_event.specs.declared.rows.Conversion.TheVariants.{IntToLong, LongToInt, IntToByte, IntToChar, IntToShort}
use Rattle.et_event.specs.declared.rows.Division.TheVariants.{Quotient, Remainder}
use Rattle.et_event.specs.declared.rows.Comparison.TheVariants.{Equal, NotEqual, Less, GreaterOrEqual, Greater, LessOrEqual}
use Rattle.et_event.specs.declared.rows.Condition.TheVariants as when
use Rattle.et_event.specs.declared.rows.Elements.TheVariants as elements
use Rattle.et_event.specs.declared.rows.FrameRow.{FrameRow}
use Rattle.et_event.specs.declared.rows.FrameRow.TheVariants.{Immediate, Load, Store, Increment, Rearrange, Negate, Convert, CompareLongs, Branch, Switch}
use Rattle.et_event.specs.declared.rows.FrameRow.TheVariants as frame_row
use Rattle.et_event.specs.declared.rows.HeapRow.{HeapRow}
use Rattle.et_event.specs.declared.rows.HeapRow.TheVariants.{GetStatic, PutStatic, GetField, PutField, LoadElement, StoreElement, New, NewArray, NewReferenceArray, NewMultiArray, ArrayLength, CheckCast, InstanceOf}
use Rattle.et_event.specs.declared.rows.CallKind.TheVariants.{Virtual, Special, Static, Interface}
use Rattle.et_event.specs.declared.rows.CallRow.{CallRow}
use Rattle.et_event.specs.declared.rows.CallRow.TheVariants.{Invoke, Return}
use Rattle.et_event.specs.declared.rows.MonitorRow.{MonitorRow}
use Rattle.et_event.specs.declared.rows.MonitorRow.TheVariants.{Enter, Exit}
use Rattle.et_event.specs.declared.rows.Row.{Row}
use Rattle.et_event.specs.declared.rows.Row.TheVariants.{Frame, PoolConstant, Divide, Heap, Call, Throw, Monitor}

abbrev frame : ℕ → FrameRow → ℕ × Row
frame opcode row = (opcode, Frame row)

abbrev heap : ℕ → HeapRow → ℕ × Row
heap opcode row = (opcode, Heap row)

abbrev call : ℕ → CallRow → ℕ × Row
call opcode row = (opcode, Call row)

abbrev monitor : ℕ → MonitorRow → ℕ × Row
monitor opcode row = (opcode, Monitor row)

abbrev pub constants : List (ℕ × Row)
constants =
    frame 0x00 (Rearrange stack.Nop)
    ∷ frame 0x01 frame_row.Null
    -- iconst_m1 to iconst_5
    ∷ frame 0x02 (frame_row.Int (negsuc 0))
    ∷ frame 0x03 (frame_row.Int (pos 0))
    ∷ frame 0x04 (frame_row.Int (pos 1))
    ∷ frame 0x05 (frame_row.Int (pos 2))
    ∷ frame 0x06 (frame_row.Int (pos 3))
    ∷ frame 0x07 (frame_row.Int (pos 4))
    ∷ frame 0x08 (frame_row.Int (pos 5))
    -- lconst_0, lconst_1
    ∷ frame 0x09 (frame_row.Long (pos 0))
    ∷ frame 0x0a (frame_row.Long (pos 1))
    -- bipush, sipush
    ∷ frame 0x10 Immediate
    ∷ frame 0x11 Immediate
    -- ldc, ldc_w, ldc2_w
    ∷ (0x12, PoolConstant)
    ∷ (0x13, PoolConstant)
    ∷ (0x14, PoolConstant)
    ∷ []

abbrev pub loads : List (ℕ × Row)
loads =
    -- iload, lload, aload
    frame 0x15 (Load operand.Int Named)
    ∷ frame 0x16 (Load operand.Long Named)
    ∷ frame 0x19 (Load operand.Reference Named)
    -- iload_0 to iload_3
    ∷ frame 0x1a (Load operand.Int (At 0))
    ∷ frame 0x1b (Load operand.Int (At 1))
    ∷ frame 0x1c (Load operand.Int (At 2))
    ∷ frame 0x1d (Load operand.Int (At 3))
    -- lload_0 to lload_3
    ∷ frame 0x1e (Load operand.Long (At 0))
    ∷ frame 0x1f (Load operand.Long (At 1))
    ∷ frame 0x20 (Load operand.Long (At 2))
    ∷ frame 0x21 (Load operand.Long (At 3))
    -- aload_0 to aload_3
    ∷ frame 0x2a (Load operand.Reference (At 0))
    ∷ frame 0x2b (Load operand.Reference (At 1))
    ∷ frame 0x2c (Load operand.Reference (At 2))
    ∷ frame 0x2d (Load operand.Reference (At 3))
    -- iaload, laload, aaload, baload, caload, saload
    ∷ heap 0x2e (LoadElement elements.Int)
    ∷ heap 0x2f (LoadElement elements.Long)
    ∷ heap 0x32 (LoadElement elements.Reference)
    ∷ heap 0x33 (LoadElement elements.Byte)
    ∷ heap 0x34 (LoadElement elements.Char)
    ∷ heap 0x35 (LoadElement elements.Short)
    ∷ []

abbrev pub stores : List (ℕ × Row)
stores =
    -- istore, lstore, astore
    frame 0x36 (Store operand.Int Named)
    ∷ frame 0x37 (Store operand.Long Named)
    ∷ frame 0x3a (Store operand.Reference Named)
    -- istore_0 to istore_3
    ∷ frame 0x3b (Store operand.Int (At 0))
    ∷ frame 0x3c (Store operand.Int (At 1))
    ∷ frame 0x3d (Store operand.Int (At 2))
    ∷ frame 0x3e (Store operand.Int (At 3))
    -- lstore_0 to lstore_3
    ∷ frame 0x3f (Store operand.Long (At 0))
    ∷ frame 0x40 (Store operand.Long (At 1))
    ∷ frame 0x41 (Store operand.Long (At 2))
    ∷ frame 0x42 (Store operand.Long (At 3))
    -- astore_0 to astore_3
    ∷ frame 0x4b (Store operand.Reference (At 0))
    ∷ frame 0x4c (Store operand.Reference (At 1))
    ∷ frame 0x4d (Store operand.Reference (At 2))
    ∷ frame 0x4e (Store operand.Reference (At 3))
    -- iastore, lastore, aastore, bastore, castore, sastore
    ∷ heap 0x4f (StoreElement elements.Int)
    ∷ heap 0x50 (StoreElement elements.Long)
    ∷ heap 0x53 (StoreElement elements.Reference)
    ∷ heap 0x54 (StoreElement elements.Byte)
    ∷ heap 0x55 (StoreElement elements.Char)
    ∷ heap 0x56 (StoreElement elements.Short)
    ∷ []

abbrev pub stack_rows : List (ℕ × Row)
stack_rows =
    frame 0x57 (Rearrange stack.Pop)
    ∷ frame 0x58 (Rearrange stack.Pop2)
    ∷ frame 0x59 (Rearrange stack.Dup)
    ∷ frame 0x5a (Rearrange stack.DupX1)
    ∷ frame 0x5b (Rearrange stack.DupX2)
    ∷ frame 0x5c (Rearrange stack.Dup2)
    ∷ frame 0x5d (Rearrange stack.Dup2X1)
    ∷ frame 0x5e (Rearrange stack.Dup2X2)
    ∷ frame 0x5f (Rearrange stack.Swap)
    ∷ []

abbrev pub math : List (ℕ × Row)
math =
    -- iadd, ladd
    frame 0x60 (frame_row.Arithmetic number.Int op.Add)
    ∷ frame 0x61 (frame_row.Arithmetic number.Long op.Add)
    -- isub, lsub
    ∷ frame 0x64 (frame_row.Arithmetic number.Int op.Subtract)
    ∷ frame 0x65 (frame_row.Arithmetic number.Long op.Subtract)
    -- imul, lmul
    ∷ frame 0x68 (frame_row.Arithmetic number.Int op.Multiply)
    ∷ frame 0x69 (frame_row.Arithmetic number.Long op.Multiply)
    -- idiv, ldiv
    ∷ (0x6c, Divide number.Int Quotient)
    ∷ (0x6d, Divide number.Long Quotient)
    -- irem, lrem
    ∷ (0x70, Divide number.Int Remainder)
    ∷ (0x71, Divide number.Long Remainder)
    -- ineg, lneg
    ∷ frame 0x74 (Negate number.Int)
    ∷ frame 0x75 (Negate number.Long)
    -- ishl, lshl
    ∷ frame 0x78 (frame_row.Shift number.Int shift.Left)
    ∷ frame 0x79 (frame_row.Shift number.Long shift.Left)
    -- ishr, lshr
    ∷ frame 0x7a (frame_row.Shift number.Int shift.Right)
    ∷ frame 0x7b (frame_row.Shift number.Long shift.Right)
    -- iushr, lushr
    ∷ frame 0x7c (frame_row.Shift number.Int shift.UnsignedRight)
    ∷ frame 0x7d (frame_row.Shift number.Long shift.UnsignedRight)
    -- iand, land
    ∷ frame 0x7e (frame_row.Arithmetic number.Int op.And)
    ∷ frame 0x7f (frame_row.Arithmetic number.Long op.And)
    -- ior, lor
    ∷ frame 0x80 (frame_row.Arithmetic number.Int op.Or)
    ∷ frame 0x81 (frame_row.Arithmetic number.Long op.Or)
    -- ixor, lxor
    ∷ frame 0x82 (frame_row.Arithmetic number.Int op.Xor)
    ∷ frame 0x83 (frame_row.Arithmetic number.Long op.Xor)
    -- iinc
    ∷ frame 0x84 Increment
    ∷ []

abbrev pub conversions : List (ℕ × Row)
conversions =
    -- i2l, l2i, i2b, i2c, i2s
    frame 0x85 (Convert IntToLong)
    ∷ frame 0x88 (Convert LongToInt)
    ∷ frame 0x91 (Convert IntToByte)
    ∷ frame 0x92 (Convert IntToChar)
    ∷ frame 0x93 (Convert IntToShort)
    ∷ []

abbrev pub comparisons : List (ℕ × Row)
comparisons =
    -- lcmp
    frame 0x94 CompareLongs
    -- ifeq, ifne, iflt, ifge, ifgt, ifle
    ∷ frame 0x99 (Branch (when.WithZero Equal))
    ∷ frame 0x9a (Branch (when.WithZero NotEqual))
    ∷ frame 0x9b (Branch (when.WithZero Less))
    ∷ frame 0x9c (Branch (when.WithZero GreaterOrEqual))
    ∷ frame 0x9d (Branch (when.WithZero Greater))
    ∷ frame 0x9e (Branch (when.WithZero LessOrEqual))
    -- if_icmpeq, if_icmpne, if_icmplt, if_icmpge, if_icmpgt, if_icmple
    ∷ frame 0x9f (Branch (when.OfInts Equal))
    ∷ frame 0xa0 (Branch (when.OfInts NotEqual))
    ∷ frame 0xa1 (Branch (when.OfInts Less))
    ∷ frame 0xa2 (Branch (when.OfInts GreaterOrEqual))
    ∷ frame 0xa3 (Branch (when.OfInts Greater))
    ∷ frame 0xa4 (Branch (when.OfInts LessOrEqual))
    -- if_acmpeq, if_acmpne
    ∷ frame 0xa5 (Branch when.SameReference)
    ∷ frame 0xa6 (Branch when.OtherReference)
    ∷ []

abbrev pub control : List (ℕ × Row)
control =
    -- goto, tableswitch, lookupswitch
    frame 0xa7 (Branch when.Always)
    ∷ frame 0xaa Switch
    ∷ frame 0xab Switch
    -- ireturn, lreturn, areturn, return
    ∷ call 0xac (Return (Some operand.Int))
    ∷ call 0xad (Return (Some operand.Long))
    ∷ call 0xb0 (Return (Some operand.Reference))
    ∷ call 0xb1 (Return None)
    ∷ []

abbrev pub references : List (ℕ × Row)
references =
    heap 0xb2 GetStatic
    ∷ heap 0xb3 PutStatic
    ∷ heap 0xb4 GetField
    ∷ heap 0xb5 PutField
    ∷ call 0xb6 (Invoke Virtual)
    ∷ call 0xb7 (Invoke Special)
    ∷ call 0xb8 (Invoke Static)
    ∷ call 0xb9 (Invoke Interface)
    ∷ heap 0xbb New
    ∷ heap 0xbc NewArray
    -- anewarray
    ∷ heap 0xbd NewReferenceArray
    ∷ heap 0xbe ArrayLength
    -- athrow
    ∷ (0xbf, Throw)
    ∷ heap 0xc0 CheckCast
    ∷ heap 0xc1 InstanceOf
    -- monitorenter, monitorexit
    ∷ monitor 0xc2 Enter
    ∷ monitor 0xc3 Exit
    ∷ []

-- behind a `wide` the opcode of the wider instruction decides
abbrev pub extended : List (ℕ × Row)
extended =
    -- multianewarray
    heap 0xc5 NewMultiArray
    -- ifnull, ifnonnull
    ∷ frame 0xc6 (Branch when.Null)
    ∷ frame 0xc7 (Branch when.NotNull)
    -- goto_w
    ∷ frame 0xc8 (Branch when.Always)
    ∷ []

abbrev pub rows : List (ℕ × Row)
rows = constants ++ loads ++ stores ++ stack_rows ++ math ++ conversions ++ comparisons ++ control ++ references ++ extended

-- the row of an opcode
abbrev pub row_among : List (ℕ × Row) → ℕ → Option Row
row_among [] opcode = None
row_among (r ∷ rs) opcode = if r.0 == opcode then Some r.1 else row_among rs opcode

unfoldable pub row_of : ℕ → Option Row
row_of opcode = row_among rows opcode

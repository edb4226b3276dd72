-- The layout of the operands behind each opcode (JVMS 6.5, one section for each instruction), for the profile's
-- instructions. Form.Refused is an instruction of the standard that the profile leaves out, Form.Unknown none at all.
use Rattle.std.specs.Prelude.{ℕ, List, [], ◌∷◌, ◌==◌, ◌||◌, nat_le, if◌then◌else◌}
use Rattle.et_code.specs.declared.form.Form.{Form}
use Rattle.et_code.specs.declared.form.Form.TheVariants.{Plain, U1, S1, U2, S2, S4, Increment, LongIncrement, Interface, Dimensions, Wide, Table, Lookup, Refused, Unknown}

-- each run of opcodes of one form, by its last opcode
abbrev pub form_runs : List (ℕ × Form)
form_runs =
    -- nop, aconst_null, iconst_m1 to iconst_5, lconst_0, lconst_1; fconst_0 to dconst_1
    (0x0a, Plain) ∷ (0x0f, Refused) ∷
    -- bipush; sipush; ldc; ldc_w, ldc2_w
    (0x10, S1) ∷ (0x11, S2) ∷ (0x12, U1) ∷ (0x14, U2) ∷
    -- iload, lload; fload, dload; aload; iload_0 to lload_3; fload_0 to dload_3; aload_0 to aload_3, iaload, laload
    (0x16, U1) ∷ (0x18, Refused) ∷ (0x19, U1) ∷ (0x21, Plain) ∷ (0x29, Refused) ∷ (0x2f, Plain) ∷
    -- faload, daload; aaload, baload, caload, saload
    (0x31, Refused) ∷ (0x35, Plain) ∷
    -- istore, lstore; fstore, dstore; astore; istore_0 to lstore_3; fstore_0 to dstore_3; astore_0 to lastore
    (0x37, U1) ∷ (0x39, Refused) ∷ (0x3a, U1) ∷ (0x42, Plain) ∷ (0x4a, Refused) ∷ (0x50, Plain) ∷
    -- fastore, dastore; aastore, bastore, castore, sastore, pop to swap, iadd, ladd
    (0x52, Refused) ∷ (0x61, Plain) ∷
    -- fadd, dadd; isub, lsub; fsub, dsub; imul, lmul; fmul, dmul; idiv, ldiv; fdiv, ddiv; irem, lrem
    (0x63, Refused) ∷ (0x65, Plain) ∷ (0x67, Refused) ∷ (0x69, Plain) ∷ (0x6b, Refused) ∷ (0x6d, Plain) ∷ (0x6f, Refused) ∷ (0x71, Plain) ∷
    -- frem, drem; ineg, lneg; fneg, dneg; ishl to lxor; iinc
    (0x73, Refused) ∷ (0x75, Plain) ∷ (0x77, Refused) ∷ (0x83, Plain) ∷ (0x84, Increment) ∷
    -- i2l; i2f, i2d; l2i; l2f to d2f; i2b, i2c, i2s, lcmp; fcmpl to dcmpg
    (0x85, Plain) ∷ (0x87, Refused) ∷ (0x88, Plain) ∷ (0x90, Refused) ∷ (0x94, Plain) ∷ (0x98, Refused) ∷
    -- ifeq to if_acmpne, goto; jsr, ret; tableswitch; lookupswitch; ireturn, lreturn; freturn, dreturn; areturn, return
    (0xa7, S2) ∷ (0xa9, Refused) ∷ (0xaa, Table) ∷ (0xab, Lookup) ∷ (0xad, Plain) ∷ (0xaf, Refused) ∷ (0xb1, Plain) ∷
    -- getstatic to putfield, invokevirtual, invokespecial, invokestatic; invokeinterface; invokedynamic
    (0xb8, U2) ∷ (0xb9, Interface) ∷ (0xba, Refused) ∷
    -- new; newarray; anewarray; arraylength, athrow; checkcast, instanceof; monitorenter, monitorexit
    (0xbb, U2) ∷ (0xbc, U1) ∷ (0xbd, U2) ∷ (0xbf, Plain) ∷ (0xc1, U2) ∷ (0xc3, Plain) ∷
    -- wide; multianewarray; ifnull, ifnonnull; goto_w; jsr_w; breakpoint and all that are no instruction
    (0xc4, Wide) ∷ (0xc5, Dimensions) ∷ (0xc7, S2) ∷ (0xc8, S4) ∷ (0xc9, Refused) ∷ (0xff, Unknown) ∷ []

-- the form of the first run that reaches as far as the opcode
abbrev pub run_of : List (ℕ × Form) → ℕ → Form
run_of [] opcode = Unknown
run_of (run ∷ rest) opcode = if nat_le opcode run.0 then run.1 else run_of rest opcode

unfoldable pub form_of : ℕ → Form
form_of opcode = run_of form_runs opcode

-- the form of an opcode that stands behind a `wide` (JVMS 6.5, wide): iload, lload, aload, istore, lstore and astore;
-- iinc; fload, dload, fstore, dstore and ret
abbrev pub wide_form_of : ℕ → Form
wide_form_of opcode =
    if (opcode == 0x15) || (opcode == 0x16) || (opcode == 0x19) || (opcode == 0x36) || (opcode == 0x37) || (opcode == 0x3a) then U2
    else (if opcode == 0x84 then LongIncrement
    else (if (opcode == 0x17) || (opcode == 0x18) || (opcode == 0x38) || (opcode == 0x39) || (opcode == 0xa9) then Refused else Unknown))

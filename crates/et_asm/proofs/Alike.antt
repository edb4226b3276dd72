-- Entries are compared as the derived `==` compares them.
use Rattle.std.proofs.Common.{◌≡◌, Bool, refl}
use Rattle.std.proofs.Math.Path.{fun_ext}
use Rattle.et_listing.specs.declared.entry.Entry.{Entry}
use Rattle.et_listing.specs.declared.entry.Entry.TheVariants.{Utf8, Integer, Long, Class, Text, NameAndType, Field, Method, InterfaceMethod}
use Rattle.et_listing.specs.contracts.entry.EntryPartialEq.TheImpl.{eq-value}
use Rattle.et_asm.specs.Pool.{same_entry}

same : (a b : Entry) → eq-value.it a b ≡ same_entry a b
same (Utf8 x) (Utf8 y) = refl
same (Integer x) (Integer y) = refl
same (Long x) (Long y) = refl
same (Class x) (Class y) = refl
same (Text x) (Text y) = refl
same (NameAndType a b) (NameAndType c d) = refl
same (Field a b c) (Field d e f) = refl
same (Method a b c) (Method d e f) = refl
same (InterfaceMethod a b c) (InterfaceMethod d e f) = refl
same a b = refl

pub alike : eq-value.it ≡ same_entry
alike = fun_ext (λ a. fun_ext (λ b. same a b))

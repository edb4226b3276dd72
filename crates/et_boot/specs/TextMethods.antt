-- THE METHODS OF TEXTS: those of strings, of string builders and of print streams.
use Rattle.std.specs.Prelude.{ℕ, ◌&&◌, ◌||◌, Bool, List, [], ◌∷◌, codes, Option, option_map, find}
use Rattle.std.specs.Str.{bytes_eq}
use Rattle.et_boot.specs.declared.text_methods.Shown.TheVariants.{Text, Int, Long, Char, Truth}
use Rattle.et_boot.specs.declared.text_methods.TextMethod.{TextMethod}
use Rattle.et_boot.specs.declared.text_methods.TextMethod.TheVariants.{Length, CharAt, Equals, Begin, BeginWith, ToString, Append, Print, PrintLine, EndLine}

-- each by its class, its name and its descriptor
abbrev pub text_methods : List (List ℕ × List ℕ × List ℕ × TextMethod)
text_methods =
    (codes "java/lang/String", codes "length", codes "()I", Length)
    ∷ (codes "java/lang/String", codes "charAt", codes "(I)C", CharAt)
    ∷ (codes "java/lang/String", codes "equals", codes "(Ljava/lang/Object;)Z", Equals)
    ∷ (codes "java/lang/StringBuilder", codes "<init>", codes "()V", Begin)
    ∷ (codes "java/lang/StringBuilder", codes "<init>", codes "(Ljava/lang/String;)V", BeginWith)
    ∷ (codes "java/lang/StringBuilder", codes "length", codes "()I", Length)
    ∷ (codes "java/lang/StringBuilder", codes "toString", codes "()Ljava/lang/String;", ToString)
    ∷ (codes "java/lang/StringBuilder", codes "append", codes "(Ljava/lang/String;)Ljava/lang/StringBuilder;", Append Text)
    ∷ (codes "java/lang/StringBuilder", codes "append", codes "(I)Ljava/lang/StringBuilder;", Append Int)
    ∷ (codes "java/lang/StringBuilder", codes "append", codes "(J)Ljava/lang/StringBuilder;", Append Long)
    ∷ (codes "java/lang/StringBuilder", codes "append", codes "(C)Ljava/lang/StringBuilder;", Append Char)
    ∷ (codes "java/lang/StringBuilder", codes "append", codes "(Z)Ljava/lang/StringBuilder;", Append Truth)
    ∷ (codes "java/io/PrintStream", codes "print", codes "(Ljava/lang/String;)V", Print Text)
    ∷ (codes "java/io/PrintStream", codes "print", codes "(I)V", Print Int)
    ∷ (codes "java/io/PrintStream", codes "print", codes "(J)V", Print Long)
    ∷ (codes "java/io/PrintStream", codes "print", codes "(C)V", Print Char)
    ∷ (codes "java/io/PrintStream", codes "print", codes "(Z)V", Print Truth)
    ∷ (codes "java/io/PrintStream", codes "println", codes "(Ljava/lang/String;)V", PrintLine Text)
    ∷ (codes "java/io/PrintStream", codes "println", codes "(I)V", PrintLine Int)
    ∷ (codes "java/io/PrintStream", codes "println", codes "(J)V", PrintLine Long)
    ∷ (codes "java/io/PrintStream", codes "println", codes "(C)V", PrintLine Char)
    ∷ (codes "java/io/PrintStream", codes "println", codes "(Z)V", PrintLine Truth)
    ∷ (codes "java/io/PrintStream", codes "println", codes "()V", EndLine)
    ∷ []

abbrev pub is_text_method : List ℕ → List ℕ → List ℕ → List ℕ × List ℕ × List ℕ × TextMethod → Bool
is_text_method class name descriptor row = bytes_eq row.0 class && bytes_eq row.1 name && bytes_eq row.2 descriptor

-- the one of this class, this name and this descriptor
abbrev pub text_method_called : List ℕ → List ℕ → List ℕ → Option TextMethod
text_method_called class name descriptor =
    option_map (λ (row : List ℕ × List ℕ × List ℕ × TextMethod). row.3) (find (is_text_method class name descriptor) text_methods)

-- java.lang.String, java.lang.StringBuilder and java.io.PrintStream
abbrev pub has_text_methods : List ℕ → Bool
has_text_methods name =
    bytes_eq name (codes "java/lang/String")
    || bytes_eq name (codes "java/lang/StringBuilder")
    || bytes_eq name (codes "java/io/PrintStream")

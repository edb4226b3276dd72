-- THE BUILT-IN METHODS WITHOUT CODE: which one a method is, by its name and its descriptor.
use Rattle.std.specs.Prelude.{ℕ, ◌&&◌, ◌||◌, Bool, List, [], ◌∷◌, codes, Option, option_map, find}
use Rattle.std.specs.Str.{bytes_eq}
use Rattle.et_boot.specs.TextMethods.{has_text_methods}
use Rattle.et_boot.specs.declared.built_ins.BuiltIn.{BuiltIn}
use Rattle.et_boot.specs.declared.built_ins.BuiltIn.TheVariants.{Nothing, SetMessage, SetMessageAndCause, GetMessage, GetCause, SetTarget, Start, Join, SetReferent, SetReferentAndQueue, GetReferent, ClearReferent, Poll}

-- no two have one name and descriptor, and do different things
abbrev pub built_ins : List (List ℕ × List ℕ × BuiltIn)
built_ins =
    -- of Object, of Thread, of ReferenceQueue, and of Throwable and each built-in class below it
    (codes "<init>", codes "()V", Nothing)
    -- of Throwable and each built-in class below it: slot 0 is the message, slot 1 the cause
    ∷ (codes "<init>", codes "(Ljava/lang/String;)V", SetMessage)
    ∷ (codes "<init>", codes "(Ljava/lang/String;Ljava/lang/Throwable;)V", SetMessageAndCause)
    ∷ (codes "getMessage", codes "()Ljava/lang/String;", GetMessage)
    ∷ (codes "getCause", codes "()Ljava/lang/Throwable;", GetCause)
    ∷ (codes "addSuppressed", codes "(Ljava/lang/Throwable;)V", Nothing)
    -- of Thread: slot 0 is the target
    ∷ (codes "<init>", codes "(Ljava/lang/Runnable;)V", SetTarget)
    ∷ (codes "start", codes "()V", Start)
    ∷ (codes "join", codes "()V", Join)
    -- of WeakReference, and of Reference
    ∷ (codes "<init>", codes "(Ljava/lang/Object;)V", SetReferent)
    ∷ (codes "<init>", codes "(Ljava/lang/Object;Ljava/lang/ref/ReferenceQueue;)V", SetReferentAndQueue)
    ∷ (codes "get", codes "()Ljava/lang/Object;", GetReferent)
    ∷ (codes "clear", codes "()V", ClearReferent)
    -- of ReferenceQueue
    ∷ (codes "poll", codes "()Ljava/lang/ref/Reference;", Poll)
    ∷ []

abbrev pub is_called : List ℕ → List ℕ → List ℕ × List ℕ × BuiltIn → Bool
is_called name descriptor row = bytes_eq row.0 name && bytes_eq row.1 descriptor

-- the one of this name and this descriptor
abbrev pub built_in_called : List ℕ → List ℕ → Option BuiltIn
built_in_called name descriptor = option_map (λ (row : List ℕ × List ℕ × BuiltIn). row.2) (find (is_called name descriptor) built_ins)

-- java.lang.Thread, and java.lang.ref.Reference, WeakReference and ReferenceQueue: what their methods without code do is a
-- part of the machine that is made for threads, weak references and their queues; and the classes with methods of texts
abbrev pub is_deferring_class : List ℕ → Bool
is_deferring_class name =
    bytes_eq name (codes "java/lang/Thread")
    || bytes_eq name (codes "java/lang/ref/Reference")
    || bytes_eq name (codes "java/lang/ref/WeakReference")
    || bytes_eq name (codes "java/lang/ref/ReferenceQueue")
    || has_text_methods name

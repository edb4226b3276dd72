-- The rules by what is kept are the rules by the lines.
use Rattle.std.proofs.Common.{◌≡◌, ◌∙◌, ℕ, ◌-◌, Bool, true, cond, not, ◌&&◌, ◌||◌, eqb, leb, ltb, List, length, Option, Some, None, refl, ap, subst}
use Rattle.std.specs.Prelude.{slice_index, unwrap_or}
use Rattle.et_base.specs.declared.line.TraceLine.{TraceLine}
use Rattle.et_base.specs.declared.line.TraceLine.TheVariants.{Header, Class, Method, Alloc, Update, Enter, Exit, Unwind, Flush, Death, Finish}
use Rattle.et_text.specs.Rules.{order, unknown, twice, after, interval, newest_flush, misses_no_flush, has_ended, is_reported, is_open, is_timely, stands_at, keeps_order, is_known, keeps_lives}
use Rattle.et_text.specs.declared.standing.Standing.{Standing}
use Rattle.et_text.specs.ByStanding.{misses_no_flush_in, is_open_in, is_timely_in, order_in, known_in, lives_in, dies_once_in, fault_in}
use Rattle.et_text.specs.StandsFor.{Said, StandsForLines}
use Rattle.et_text.proofs.Due.{due_is}

pub open_is : (s : Standing) (past : List TraceLine) → StandsForLines s past → is_open_in s ≡ is_open past
open_is s past h = ap (λ (k : Said). k.begun && eqb k.awaited 0 && not k.is_last) h.said_is

misses_none_is : (s : Standing) (past : List TraceLine) (event : ℕ) → StandsForLines s past → misses_no_flush_in s event ≡ misses_no_flush (interval past) (newest_flush past) event
misses_none_is s past event h = ap (λ (k : Said). eqb k.interval 0 || leb (event - k.last_due) k.interval) h.said_is ∙ due_is (interval past) (newest_flush past) event

pub timely_is : (s : Standing) (past : List TraceLine) (event : ℕ) → StandsForLines s past → is_timely_in s event ≡ is_timely past event
timely_is s past event h = rw (open_is s past h, ap (λ (k : Said). k.latest) h.said_is, ap (λ (k : Said). k.flushed) h.said_is, misses_none_is s past event h) refl

pub order_is : (s : Standing) (past : List TraceLine) (line : TraceLine) → StandsForLines s past → order_in s line ≡ keeps_order past line
order_is s past (Header v n) h = ap (λ (k : Said). not k.begun) h.said_is
order_is s past (Class number name) h = rw (open_is s past h, ap (λ (k : Said). k.classes) h.said_is) refl
order_is s past (Method number class name descriptor) h = rw (open_is s past h, ap (λ (k : Said). k.methods) h.said_is) refl
order_is s past (Alloc event thread object class size len) h = rw (timely_is s past event h, ap (λ (k : Said). k.births) h.said_is) refl
order_is s past (Update event thread object slot old new) h = timely_is s past event h
order_is s past (Enter event thread method receiver) h = timely_is s past event h
order_is s past (Exit event thread method) h = timely_is s past event h
order_is s past (Unwind event thread method exception) h = timely_is s past event h
order_is s past (Flush event deaths) h = timely_is s past event h
order_is s past (Death object time) h = ap (λ (k : Said). ltb 0 k.awaited && ltb k.last_dead object && leb time (unwrap_or k.flushed 0)) h.said_is
order_is s past (Finish event how) h = ap (λ (k : Said). eqb k.awaited 0 && stands_at k.standing event) h.said_is

pub known_is : (s : Standing) (past : List TraceLine) (line : TraceLine) → StandsForLines s past → known_in s line ≡ is_known past line
known_is s past (Header v n) h = refl
known_is s past (Class number name) h = refl
known_is s past (Method number class name descriptor) h = ap (λ (k : Said). leb class k.classes) h.said_is
known_is s past (Alloc event thread object class size len) h = ap (λ (k : Said). leb class k.classes) h.said_is
known_is s past (Update event thread object slot old new) h = ap (λ (k : Said). leb object (length k.births) && leb old (length k.births) && leb new (length k.births)) h.said_is
known_is s past (Enter event thread method receiver) h = ap (λ (k : Said). leb method k.methods && leb receiver (length k.births)) h.said_is
known_is s past (Exit event thread method) h = ap (λ (k : Said). leb method k.methods) h.said_is
known_is s past (Unwind event thread method exception) h = ap (λ (k : Said). leb method k.methods && leb exception (length k.births)) h.said_is
known_is s past (Flush event deaths) h = refl
known_is s past (Death object time) h = ap (λ (k : Said). leb object (length k.births)) h.said_is
known_is s past (Finish event how) h = refl

pub lives_are : (s : Standing) (past : List TraceLine) (line : TraceLine) → StandsForLines s past → lives_in s line ≡ keeps_lives past line
lives_are s past (Header v n) h = refl
lives_are s past (Class number name) h = refl
lives_are s past (Method number class name descriptor) h = refl
lives_are s past (Alloc event thread object class size len) h = refl
lives_are s past (Update event thread object slot old new) h = rw (h.reported_is object, h.reported_is old, h.reported_is new) refl
lives_are s past (Enter event thread method receiver) h = rw (h.reported_is receiver) refl
lives_are s past (Exit event thread method) h = refl
lives_are s past (Unwind event thread method exception) h = rw (h.reported_is exception) refl
lives_are s past (Flush event deaths) h = refl
lives_are s past (Death object time) h = ap (λ (k : Said). leb (slice_index k.births (object - 1)) time) h.said_is
lives_are s past (Finish event how) h = refl

-- the last rule, but for names
abbrev pub dies_once : List TraceLine → TraceLine → Bool
dies_once past (Death object time) = not (is_reported past object)
dies_once past _ = true

pub dies_once_is : (s : Standing) (past : List TraceLine) (line : TraceLine) → StandsForLines s past → dies_once_in s line ≡ dies_once past line
dies_once_is s past (Header v n) h = refl
dies_once_is s past (Class number name) h = refl
dies_once_is s past (Method number class name descriptor) h = refl
dies_once_is s past (Alloc event thread object class size len) h = refl
dies_once_is s past (Update event thread object slot old new) h = refl
dies_once_is s past (Enter event thread method receiver) h = refl
dies_once_is s past (Exit event thread method) h = refl
dies_once_is s past (Unwind event thread method exception) h = refl
dies_once_is s past (Flush event deaths) h = refl
dies_once_is s past (Death object time) h = rw (h.reported_is object) refl
dies_once_is s past (Finish event how) h = refl

abbrev pub fault_but_names : List TraceLine → TraceLine → Option ℕ
fault_but_names past line =
    cond (has_ended past) (Some after)
    (cond (not (keeps_order past line)) (Some order)
    (cond (not (is_known past line)) (Some unknown)
    (cond (not (keeps_lives past line)) (Some order)
    (cond (not (dies_once past line)) (Some twice) None))))

pub fault_is : (s : Standing) (past : List TraceLine) (line : TraceLine) → StandsForLines s past → fault_in s line ≡ fault_but_names past line
fault_is s past line h =
    subst (λ (b : Bool). fault_in s line ≡ cond b (Some after) (cond (not (keeps_order past line)) (Some order) (cond (not (is_known past line)) (Some unknown) (cond (not (keeps_lives past line)) (Some order) (cond (not (dies_once past line)) (Some twice) None))))) h.ended_is
    (subst (λ (b : Bool). fault_in s line ≡ cond s.ended (Some after) (cond (not b) (Some order) (cond (not (is_known past line)) (Some unknown) (cond (not (keeps_lives past line)) (Some order) (cond (not (dies_once past line)) (Some twice) None))))) (order_is s past line h)
    (subst (λ (b : Bool). fault_in s line ≡ cond s.ended (Some after) (cond (not (order_in s line)) (Some order) (cond (not b) (Some unknown) (cond (not (keeps_lives past line)) (Some order) (cond (not (dies_once past line)) (Some twice) None))))) (known_is s past line h)
    (subst (λ (b : Bool). fault_in s line ≡ cond s.ended (Some after) (cond (not (order_in s line)) (Some order) (cond (not (known_in s line)) (Some unknown) (cond (not b) (Some order) (cond (not (dies_once past line)) (Some twice) None))))) (lives_are s past line h)
    (subst (λ (b : Bool). fault_in s line ≡ cond s.ended (Some after) (cond (not (order_in s line)) (Some order) (cond (not (known_in s line)) (Some unknown) (cond (not (lives_in s line)) (Some order) (cond (not b) (Some twice) None))))) (dies_once_is s past line h) refl))))

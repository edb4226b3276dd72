use Rattle.et_binary.proofs.InRange.{header_range, class_range, method_range}
use Rattle.et_binary.proofs.ranges.is_other_in_range.Goals as goal

pub returns-in-Header : goal.returns-in-Header
returns-in-Header c = header_range _ _ _ _ c.in-Header.is c.requires.packed c.is_event.ensures

pub returns-in-Class : goal.returns-in-Class
returns-in-Class c = class_range _ _ _ _ c.in-Class.is c.requires.packed c.is_class_in_range.ensures

pub returns-in-Method : goal.returns-in-Method
returns-in-Method c = method_range _ _ _ _ _ _ c.in-Method.is c.requires.packed c.is_method_in_range.ensures

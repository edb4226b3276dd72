-- THE LISTING of the large program that `bench` runs, in parts between its numbers. Lines end by LF (\n).
use Rattle.std.specs.Prelude.{ℕ, List, ◌++◌, codes}
use Rattle.std.specs.Fmt.{decimal}

-- The fields, and `pick` up to the number of cells: the next number of a linear congruence goes to `x`, and the answer is
-- what its upper 31 bits leave when they are divided by that number.
abbrev pub to_modulus : List ℕ
to_modulus =
    codes "class Bench java/lang/Object 0021\nfield next LBench; 0000\n"
    ++ codes "field weak Ljava/lang/ref/WeakReference; 0008\nfield x J 0008\n"
    ++ codes "method pick ()I 0009 4 0\n"
    ++ codes "getstatic Bench x J\nldc2_w 6364136223846793005\nlmul\nldc2_w 1442695040888963407\nladd\n"
    ++ codes "dup2\nputstatic Bench x J\nbipush 33\nlushr\nldc2_w "

-- `main` puts the first number into `x`,
abbrev pub to_seed : List ℕ
to_seed =
    codes "\nlrem\nl2i\nireturn\nend\n"
    ++ codes "method main ([Ljava/lang/String;)V 0009 5 5\nldc2_w "

-- and makes an array of cells,
abbrev pub to_length : List ℕ
to_length = codes "\nputstatic Bench x J\nldc int "

-- of which each gets an object.
abbrev pub to_cells : List ℕ
to_cells =
    codes "\nanewarray Bench\nastore 1\niconst_0\nistore 2\n"
    ++ codes "fill:\niload 2\nldc int "

-- Then the rounds begin.
abbrev pub to_rounds : List ℕ
to_rounds =
    codes "\nif_icmpge work\naload 1\niload 2\nnew Bench\naastore\niinc 2 1\ngoto fill\n"
    ++ codes "work:\niconst_0\nistore 2\n"
    ++ codes "loop:\niload 2\nldc int "

-- In each a new object takes the place of that of a cell, and another cell's loses what it refers to. In each sixteenth
-- round the object that is referred to weakly, where it is still there, comes back to the cell, and the new one is referred
-- to weakly. In each sixty-fourth an exception is thrown and caught.
abbrev pub to_end : List ℕ
to_end =
    codes "\nif_icmpge done\ninvokestatic Bench pick ()I\nistore 3\nnew Bench\nastore 4\n"
    ++ codes "aload 4\naload 1\ninvokestatic Bench pick ()I\naaload\ndup\naconst_null\n"
    ++ codes "putfield Bench next LBench;\nputfield Bench next LBench;\n"
    ++ codes "aload 1\niload 3\naload 4\naastore\niload 2\nbipush 15\niand\nifne plain\n"
    ++ codes "getstatic Bench weak Ljava/lang/ref/WeakReference;\ndup\nifnull first\n"
    ++ codes "invokevirtual java/lang/ref/WeakReference get ()Ljava/lang/Object;\ncheckcast Bench\n"
    ++ codes "dup\nifnull first\naload 1\nswap\niload 3\nswap\naastore\ngoto renew\n"
    ++ codes "first:\npop\n"
    ++ codes "renew:\nnew java/lang/ref/WeakReference\ndup\naload 4\n"
    ++ codes "invokespecial java/lang/ref/WeakReference <init> (Ljava/lang/Object;)V\n"
    ++ codes "putstatic Bench weak Ljava/lang/ref/WeakReference;\n"
    ++ codes "plain:\niload 2\nbipush 63\niand\n"
    ++ codes "a:\niconst_1\nswap\nidiv\npop\n"
    ++ codes "b:\ngoto next\n"
    ++ codes "h:\npop\n"
    ++ codes "next:\niinc 2 1\ngoto loop\n"
    ++ codes "done:\nreturn\ncatch a b h java/lang/ArithmeticException\nend\n"

-- .. with the first number of its choices, the number of cells and that of rounds
unfoldable pub bench_listing : (number cells rounds : ℕ) → List ℕ
bench_listing number cells rounds =
    to_modulus ++ decimal cells ++ to_seed ++ decimal number ++ to_length ++ decimal cells ++ to_cells ++ decimal cells ++ to_rounds ++ decimal rounds ++ to_end
